-- Numbers one after the other.
use Rattle.std.proofs.Common.{◌≡◌, ℕ, ◌+◌, List, [], ◌∷◌, ◌++◌, sym, ap, ◌∙◌}
use Rattle.std.specs.List.{range_with_len}
use Rattle.std.proofs.lemmas.List.{map-id}
use Rattle.std.proofs.lemmas.List.FromFn.{map-range_with_len_more}

-- so many numbers from a on, and the next
pub range_more : (a n b : ℕ) → a + n ≡ b → range_with_len a (n + 1) ≡ range_with_len a n ++ b ∷ []
range_more a n b next = sym (map-id (range_with_len a (n + 1)))
    ∙ map-range_with_len_more (λ (x : ℕ). x) a n b next
    ∙ ap (λ (xs : List ℕ). xs ++ b ∷ []) (map-id (range_with_len a n))
