-- Ids in their order, and those of them that are kept, one after the other.
use Rattle.std.proofs.Common.{◌≡◌, ℕ, ◌+◌, true, false, not, List, [], ◌∷◌, ◌++◌}
use Rattle.std.proofs.Common.{length, refl, ap, ◌∙◌, add-one, arith, filter}
use Rattle.std.specs.List.{range_with_len, remove}
use Rattle.std.proofs.lemmas.List.Elements.{filter-append}
use Rattle.std.proofs.lemmas.List.{append-nil}
use Rattle.std.proofs.lemmas.List.FromFn.{map-range_with_len_more}
use Rattle.texts.proofs.Ranges.{range_more}
use Rattle.attack.specs.Draws.{below}
use Rattle.attack.specs.FaultyIds.{is_among, others, left_over, king_at, place_past, kings_but}

-- one id more is kept if it is not among these
others_step : (n : ℕ) (ids : List ℕ) → others (n + 1) ids
    ≡ others n ids ++ filter (λ id. not (is_among ids id)) (n ∷ [])
others_step n ids =
    ap (filter (λ id. not (is_among ids id))) (range_more 0 n n (omega arith))
    ∙ filter-append (λ id. not (is_among ids id)) (range_with_len 0 n) (n ∷ [])

pub others_with : (n : ℕ) (ids : List ℕ) → is_among ids n ≡ false
    → others (n + 1) ids ≡ others n ids ++ n ∷ []
others_with n ids e = others_step n ids ∙ rw e refl

pub others_without : (n : ℕ) (ids : List ℕ) → is_among ids n ≡ true
    → others (n + 1) ids ≡ others n ids
others_without n ids e = others_step n ids ∙ rw e (append-nil (others n ids))

-- what is left when one more is taken away
pub left_over_none : (seed : ℕ) (ids : List ℕ) → ids ≡ left_over seed ids 0
unfolding left_over
left_over_none seed ids = refl

pub left_over_more : (seed : ℕ) (ids : List ℕ) (i : ℕ) → left_over seed ids (i + 1)
    ≡ remove (left_over seed ids i) (below seed i (length (left_over seed ids i)))
unfolding left_over
left_over_more seed ids i = rw (add-one i) refl

-- one king more
pub kings_more : (left without i : ℕ) → kings_but left without (i + 1)
    ≡ kings_but left without i ++ king_at left (place_past without i) ∷ []
kings_more left without i =
    map-range_with_len_more (λ i. king_at left (place_past without i)) 0 i i (omega arith)
