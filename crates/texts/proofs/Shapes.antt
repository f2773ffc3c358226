-- Reading numbers one after the other.
use Rattle.std.proofs.Common.{◌≡◌, ℕ, suc, ◌+◌, ◌-◌, ◌<◌, ◌≤◌, List, [], ◌∷◌, ◌++◌, Option, Some}
use Rattle.std.proofs.Common.{None, refl, sym, ap, append_assoc, arith}
use Rattle.std.proofs.lemmas.List.{append-nil}
use Rattle.texts.specs.Numbers.{number_of}
use Rattle.texts.specs.Shapes.{onto_numbers, numbers_of}

-- the numbers so far, and those that are read of the rest
abbrev pub with_front : List ℕ → Option (List ℕ) → Option (List ℕ)
with_front front None = None
with_front front (Some ns) = Some (front ++ ns)

-- a number moves from the rest to the front
regroup : (front : List ℕ) (n : ℕ) (ns : Option (List ℕ))
    → with_front front (onto_numbers (Some n) ns) ≡ with_front (front ++ n ∷ []) ns
regroup front n None = refl
regroup front n (Some ns) = ap Some (sym (append_assoc front (n ∷ []) ns))

-- one more number
pub numbers_more : (front : List ℕ) (end i : ℕ) (word : List ℕ) (words : List (List ℕ)) (n : ℕ)
    → i < end → number_of word ≡ Some n
    → with_front front (numbers_of (end - i) (word ∷ words))
    ≡ with_front (front ++ n ∷ []) (numbers_of (end - (i + 1)) words)
numbers_more front end i word words n lt is = let k : end - i ≡ suc (end - (i + 1)) = omega arith in
    rw (k, is) (regroup front n (numbers_of (end - (i + 1)) words))

-- no word is left
pub numbers_short : (front : List ℕ) (end i : ℕ) → i < end
    → with_front front (numbers_of (end - i) []) ≡ None
numbers_short front end i lt = let k : end - i ≡ suc (end - (i + 1)) = omega arith in rw k refl

-- all numbers are read
pub numbers_done : (front : List ℕ) (end i : ℕ) → end ≤ i
    → with_front front (numbers_of (end - i) []) ≡ Some front
numbers_done front end i le = let k : end - i ≡ 0 = omega arith in rw k (ap Some (append-nil front))
