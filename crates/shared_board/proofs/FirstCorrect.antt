-- The first correct node of a stretch, which a search from its beginning finds.
use Rattle.std.proofs.Common.{◌≡◌, ℕ, suc, ◌+◌, ◌-◌, ◌<◌, ◌≤◌, Bool, true, false, not, cond, []}
use Rattle.std.proofs.Common.{◌∷◌, ◌++◌, map, get_or, Option, None, ap, sym, ◌∙◌, arith}
use Rattle.std.specs.List.{filter, range_with_len}
use Rattle.std.proofs.lemmas.List.{map-append}
use Rattle.shared_board.specs.Senders.{Sent, is_liar, correct_in}
use Rattle.shared_board.proofs.Passing.{passing_two, mapped_more}

-- what is looked for is some value of a node
module _ (s : Sent) (value : ℕ → Option ℕ) where
  is_correct : ℕ → Bool
  is_correct u = not (is_liar s u)

  value_here : (u m : ℕ) → is_liar s u ≡ false
      → get_or (map value (correct_in s u (suc m))) 0 None ≡ value u
  unfolding is_correct
  value_here u m ok =
      let rest = filter (λ u. not (is_liar s u)) (range_with_len (u + 1) m) in
      ap (λ b. get_or (map value (cond (not b) (u ∷ rest) rest)) 0 None) ok

  values_two : (first k more : ℕ) → map value (correct_in s first (k + more))
      ≡ map value (correct_in s first k) ++ map value (correct_in s (first + k) more)
  unfolding is_correct
  values_two first k more =
      ap (map value) (passing_two is_correct first k more)
      ∙ map-append value (filter is_correct (range_with_len first k))
      (filter is_correct (range_with_len (first + k) more))

  -- the first correct node of a stretch has its first value
  pub first_found : (first count u : ℕ) → first ≤ u → u < first + count
      → map value (correct_in s first (u - first)) ≡ [] → is_liar s u ≡ false
      → get_or (map value (correct_in s first count)) 0 None ≡ value u
  first_found first count u le lt none ok =
      let k = u - first in
      let m = count - k - 1 in
      let e : count ≡ k + suc m = omega arith in
      let at : first + k ≡ u = omega arith in
      ap (λ n. get_or (map value (correct_in s first n)) 0 None) e
      ∙ (ap (λ vs. get_or vs 0 None) (values_two first k (suc m))
      ∙ (ap (λ xs. get_or (xs ++ map value (correct_in s (first + k) (suc m))) 0 None) none
      ∙ (ap (λ a. get_or (map value (correct_in s a (suc m))) 0 None) at
      ∙ value_here u m ok)))

  -- no correct node up to a liar
  pub none_found : (first u : ℕ) → first ≤ u → map value (correct_in s first (u - first)) ≡ []
      → is_liar s u ≡ true → map value (correct_in s first (u + 1 - first)) ≡ []
  unfolding is_correct
  none_found first u le none liar =
      sym (mapped_more is_correct value first u le)
      ∙ (ap (λ xs. xs ++ map value (correct_in s u 1)) none
      ∙ ap (λ b. map value (cond (not b) (u ∷ []) [])) liar)
