-- Texts of numbers that follow one another.
use Rattle.std.proofs.Common.{◌≡◌, ℕ, zero, suc, ◌+◌, ◌<◌, ◌≤◌, List, ◌++◌, refl, sym, ap₂, ◌∙◌}
use Rattle.std.proofs.Common.{arith}
use Rattle.std.specs.List.{flat_map, range_with_len}
use Rattle.std.proofs.lemmas.List.Concat.{flat_map-cons}

-- texts that are one by one the same
pub same_texts : (f g : ℕ → List ℕ) (n a : ℕ) → ((t : ℕ) → a ≤ t → t < a + n → f t ≡ g t)
    → flat_map f (range_with_len a n) ≡ flat_map g (range_with_len a n)
same_texts f g zero a same = refl
same_texts f g (suc n) a same =
    flat_map-cons f a (range_with_len (a + 1) n)
    ∙ (ap₂ (λ (x y : List ℕ). x ++ y) (same a (omega arith) (omega arith))
    (same_texts f g n (a + 1) (λ t lo hi. same t (omega (arith, lo)) (omega (arith, hi))))
    ∙ sym (flat_map-cons g a (range_with_len (a + 1) n)))
