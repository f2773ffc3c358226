-- Rising ids, one after the other.
use Rattle.std.proofs.Common.{◌≡◌, ℕ, zero, suc, ◌+◌, ◌-◌, ◌<◌, ◌≤◌, Bool, true, false, cond, not}
use Rattle.std.proofs.Common.{◌&&◌, ◌||◌, List, [], ◌∷◌, ◌++◌, length, map, filter, slice_index}
use Rattle.std.proofs.Common.{take, refl, sym, ap, ap₂, ◌∙◌, add-one, arith, length-append}
use Rattle.std.specs.List.{range_with_len, list_any, flat_map}
use Rattle.std.specs.Int.{from_bool}
use Rattle.std.proofs.lemmas.List.{append-nil, append_assoc, map-append}
use Rattle.std.proofs.lemmas.List.FromFn.{length-range_with_len, get_or-range_with_len}
use Rattle.std.proofs.lemmas.Grind.{flat_map-append, take_at_read}
use Rattle.std.proofs.lemmas.List.Elements.{filter-append}
use Rattle.std.proofs.lemmas.List.Filters.{length-filter_both}
use Rattle.texts.proofs.Ranges.{range_more}
use Rattle.sync_types.specs.FaultSets.{is_in}
use Rattle.round_runner.specs.Locks.{correct_nodes}
use Rattle.run_checker.specs.Checking.{needs_state}

-- the last of the ids below v is below v
pub last_below : (v : ℕ) → 0 < length (range_with_len 0 v)
    → slice_index (range_with_len 0 v) (length (range_with_len 0 v) - 1) < v
last_below v some =
    let long = length-range_with_len 0 v in
    let last : length (range_with_len 0 v) - 1 ≡ v - 1 = omega (arith, long) in
    let at = get_or-range_with_len 0 v (v - 1) 0 (omega (arith, long, some)) in
    rw (last, at) (omega (arith, long, some))

-- ---- nodes that need a state

module _ (unknown faulty : List ℕ) where
  abbrev some_need : (v n : ℕ) → Bool
  some_need v n = list_any (λ u. is_in unknown u && not (is_in faulty u)) (range_with_len v n)

  pub one_needs : (v to : ℕ) → v < to → needs_state unknown faulty v to
      ≡ ((is_in unknown v && not (is_in faulty v)) || needs_state unknown faulty (v + 1) to)
  one_needs v to lt =
      let more : to - v ≡ suc (to - (v + 1)) = omega arith in
      ap (some_need v) more

-- ---- correct nodes

module _ (faulty : List ℕ) where
  -- one more node, which is correct or not
  pub correct_more : (v : ℕ) → correct_nodes (v + 1) faulty
      ≡ correct_nodes v faulty ++ filter (λ u. not (is_in faulty u)) (v ∷ [])
  correct_more v =
      ap (filter (λ u. not (is_in faulty u))) (range_more 0 v v (omega arith))
      ∙ filter-append (λ u. not (is_in faulty u)) (range_with_len 0 v) (v ∷ [])

  pub one_correct : (v : ℕ) → is_in faulty v ≡ false
      → correct_nodes (v + 1) faulty ≡ correct_nodes v faulty ++ v ∷ []
  one_correct v is =
      correct_more v ∙ ap (λ (b : Bool). correct_nodes v faulty ++ cond (not b) (v ∷ []) []) is

  pub one_faulty : (v : ℕ) → is_in faulty v ≡ true
      → correct_nodes (v + 1) faulty ≡ correct_nodes v faulty
  one_faulty v is =
      correct_more v ∙ ap (λ (b : Bool). correct_nodes v faulty ++ cond (not b) (v ∷ []) []) is
      ∙ append-nil (correct_nodes v faulty)

  -- so there is one more of them, or are as many
  pub count_one : (v : ℕ) → is_in faulty v ≡ false
      → length (correct_nodes (v + 1) faulty) ≡ length (correct_nodes v faulty) + 1
  count_one v is =
      ap (λ (l : List ℕ). length l) (one_correct v is)
      ∙ length-append (correct_nodes v faulty) (v ∷ [])

  pub count_faulty : (v : ℕ) → is_in faulty v ≡ true
      → length (correct_nodes (v + 1) faulty) ≡ length (correct_nodes v faulty)
  count_faulty v is = ap (λ (l : List ℕ). length l) (one_faulty v is)

  pub count_more : (v : ℕ) → length (correct_nodes v faulty) + from_bool (not (is_in faulty v))
      ≡ length (correct_nodes (v + 1) faulty)
  count_more v = by (is_in faulty v) refl where
    by : (b : Bool) → is_in faulty v ≡ b → length (correct_nodes v faulty) + from_bool (not b)
        ≡ length (correct_nodes (v + 1) faulty)
    by true e = let same = count_faulty v e in omega (arith, same)
    by false e = let one = count_one v e in omega (arith, one)

  -- there are no more of them than nodes
  pub few_correct : (v : ℕ) → length (correct_nodes v faulty) ≤ v
  few_correct v =
      let both = length-filter_both (λ u. not (is_in faulty u)) (λ u. not (not (is_in faulty u)))
      (λ u. refl) (range_with_len 0 v) in
      omega (arith, both, length-range_with_len 0 v)

  -- the pairs of one more node
  pub pairs_more : (u v : ℕ) (old now : List (ℕ × ℕ))
      → now ≡ old ++ map (λ w. (u, w)) (correct_nodes v faulty)
      → now ++ cond (is_in faulty v) [] ((u, v) ∷ [])
      ≡ old ++ map (λ w. (u, w)) (correct_nodes (v + 1) faulty)
  pairs_more u v old now is = by (is_in faulty v) refl where
    by : (b : Bool) → is_in faulty v ≡ b
        → now ++ cond b [] ((u, v) ∷ []) ≡ old ++ map (λ w. (u, w)) (correct_nodes (v + 1) faulty)
    by true e = append-nil now ∙ is ∙ ap (λ vs. old ++ map (λ w. (u, w)) vs) (sym (one_faulty v e))
    by false e =
        ap (λ l. l ++ (u, v) ∷ []) is
        ∙ append_assoc old (map (λ w. (u, w)) (correct_nodes v faulty)) ((u, v) ∷ [])
        ∙ ap (λ l. old ++ l) (sym (map-append (λ w. (u, w)) (correct_nodes v faulty) (v ∷ [])))
        ∙ ap (λ vs. old ++ map (λ w. (u, w)) vs) (sym (one_correct v e))

-- ---- lists of lists

-- what comes of one more of a list
pub flat_more : (f : ℕ → List (ℕ × ℕ)) (ids : List ℕ) (i u : ℕ) (now : List (ℕ × ℕ))
    → i < length ids → u ≡ slice_index ids i
    → now ≡ flat_map f (take i ids) → now ++ f u ≡ flat_map f (take (i + 1) ids)
flat_more f ids i u now lt at is =
    ap₂ (λ a b. a ++ b) is (sym (append-nil (f u)) ∙ ap (λ w. flat_map f (w ∷ [])) at)
    ∙ sym (flat_map-append f (take i ids) (slice_index ids i ∷ []))
    ∙ sym (ap (flat_map f) ((take_at_read ids i 0 lt).1))
