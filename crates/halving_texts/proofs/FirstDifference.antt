-- Where two texts differ.
use Rattle.std.proofs.Common.{◌≡◌, ℕ, ◌+◌, Bool, true, false, List, [], ◌∷◌, Some, None, refl}
use Rattle.std.proofs.Common.{ap, ap₂}
use Rattle.std.proofs.Common.{◌∙◌, ◌≢◌, ◌⊎◌, inl, inr, length, arith}
use Rattle.std.specs.Prelude.{◌==◌, if◌then◌else◌}
use Rattle.std.proofs.lemmas.Bool.{eqb-true}
use Rattle.halving_texts.specs.Reading.{differs_at}

same_byte : (x : ℕ) → (x == x) ≡ true
same_byte x = grind arith

-- a text does not differ from itself
pub differs_none : (number : ℕ) (text : List ℕ) → differs_at number text text ≡ None
differs_none number [] = refl
differs_none number (x ∷ xs) =
    ap (λ (b : Bool). if b then differs_at (if x == 10 then number + 1 else number) xs xs
    else Some number) (same_byte x)
    ∙ differs_none (if x == 10 then number + 1 else number) xs

none_by : (number x y : ℕ) (xs ys : List ℕ) (same : Bool) → (x == y) ≡ same
    → (if same then differs_at (if x == 10 then number + 1 else number) xs ys
    else Some number) ≡ None
    → (differs_at (if x == 10 then number + 1 else number) xs ys ≡ None → xs ≡ ys)
    → x ∷ xs ≡ y ∷ ys
none_by number x y xs ys true is none rest = ap₂ (λ b bs. b ∷ bs) (eqb-true x y is) (rest none)
none_by number x y xs ys false is none rest = absurd cc

-- and from no other text it does not
pub same_texts : (number : ℕ) (text other : List ℕ) → differs_at number text other ≡ None
    → text ≡ other
same_texts number [] [] none = refl
same_texts number [] (y ∷ ys) none = absurd cc
same_texts number (x ∷ xs) [] none = absurd cc
same_texts number (x ∷ xs) (y ∷ ys) none =
    none_by number x y xs ys (x == y) refl none
    (same_texts (if x == 10 then number + 1 else number) xs ys)

-- two texts, one of which is empty and one is not, differ there
pub differs_last : (number : ℕ) (text other : List ℕ) → length text ≢ length other
    → (length text ≡ 0) ⊎ (length other ≡ 0) → differs_at number text other ≡ Some number
differs_last number [] [] other short = absurd (other refl)
differs_last number [] (y ∷ ys) other short = refl
differs_last number (x ∷ xs) [] other short = refl
differs_last number (x ∷ xs) (y ∷ ys) other (inl none) = absurd (omega (arith, none))
differs_last number (x ∷ xs) (y ∷ ys) other (inr none) = absurd (omega (arith, none))
