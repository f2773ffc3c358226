-- Moduli that are filled up with zeros.
use Rattle.std.proofs.Common.{◌≡◌, ℕ, zero, suc, ◌+◌, ◌<◌, List, [], ◌∷◌, ◌++◌, take, get_or}
use Rattle.std.proofs.Common.{replicate}
use Rattle.std.proofs.Common.{length, refl, sym, ap, ◌∙◌}
use Rattle.std.proofs.lemmas.List.{take_more}

abbrev zeros : ℕ → List ℕ
zeros n = replicate n 0

zero_at : (n i : ℕ) → get_or (zeros n) i 0 ≡ 0
zero_at zero i = refl
zero_at (suc n) zero = refl
zero_at (suc n) (suc i) = zero_at n i

-- further zeros are read where there is none
pub filled_at : (xs : List ℕ) (n i : ℕ) → get_or (xs ++ zeros n) i 0 ≡ get_or xs i 0
filled_at [] n i = zero_at n i
filled_at (x ∷ xs) n zero = refl
filled_at (x ∷ xs) n (suc i) = filled_at xs n i

pub one_more : (all now : List ℕ) (i x : ℕ) → i < length all → now ≡ take i all → x ≡ get_or all i 0
    → now ++ x ∷ [] ≡ take (i + 1) all
one_more all now i x lt is e =
    ap (λ (l : List ℕ). l ++ x ∷ []) is
    ∙ (ap (λ y. take i all ++ y ∷ []) e ∙ sym (take_more all i 0 lt))
