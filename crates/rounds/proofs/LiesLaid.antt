-- What the faulty nodes of a stretch tell, laid into their places one after the other.
use Rattle.std.proofs.Common.{◌≡◌, ℕ, ◌+◌, ◌<◌, ◌≤◌, inl, inr, List, length, set, All, sym, ap, ◌∙◌}
use Rattle.std.proofs.Common.{subst, arith}
use Rattle.std.specs.Prelude.{slice_index}
use Rattle.std.specs.List.Sorted.{IsStrictlyIncreasing}
use Rattle.std.proofs.lemmas.Bool.{cases_eq}
use Rattle.std.proofs.lemmas.List.{length-set, get_or-set_same, get_or-set_other}
use Rattle.std.proofs.lemmas.List.Elements.{All-set}
use Rattle.sync_types.specs.States.{State, zero_state}
use Rattle.construction.specs.Steps.{state_of}
use Rattle.rounds.specs.Laying.{IsSameOrTold}
use Rattle.rounds.proofs.Own.{same_place}

module _ (depth : ℕ) (ids : List ℕ) (from to : ℕ) (lies start : List State) where
  -- the lies of the faulty nodes before j stand in their places, and the others are as they were
  pub record LiesLaid (j : ℕ) (heard : List State) : Type 0 where
    pub low : from ≤ j
    pub high : from < j → j ≤ to
    pub size : length heard ≡ length start
    pub deep : All (λ (s : State). length s.registers ≡ depth) heard
    pub told : (k : ℕ) → from ≤ k → k < j
        → state_of heard (slice_index ids k) ≡ state_of lies k
    pub each : (u : ℕ) → IsSameOrTold ids from j lies (state_of start u) u (state_of heard u)

  longer : (j u : ℕ) (before state : State) → IsSameOrTold ids from j lies before u state
      → IsSameOrTold ids from (j + 1) lies before u state
  longer j u before state (inl same) = inl same
  longer j u before state (inr told) = inr (record {
    place = told.place;
    low = told.low;
    high = let lt = told.high in omega (arith, lt);
    id = told.id;
    told = told.told;
  })

  pub one_laid : IsStrictlyIncreasing ids → (j u : ℕ) (heard : List State) (out : State)
      → j < to → j < length ids → u < length start → slice_index ids j ≡ u → LiesLaid j heard
      → out ≡ state_of lies j → length out.registers ≡ depth
      → LiesLaid (j + 1) (set heard u out)
  one_laid rising j u heard out before lt node id h is deep =
      let size = h.size in
      let inside : u < length heard = omega (arith, node, size) in
      let here : state_of (set heard u out) u ≡ state_of lies j =
      get_or-set_same heard u out (zero_state 0) inside ∙ is in
      record {
        low = let low = h.low in omega (arith, low);
        high = λ some. omega (arith, before);
        size = length-set heard u out ∙ h.size;
        deep = All-set (λ (s : State). length s.registers ≡ depth) heard u out deep h.deep;
        told = λ k klow klt. elim (cases_eq k j) [
          | inl at ↦ subst (λ (i : ℕ). state_of (set heard u out) (slice_index ids i)
              ≡ state_of lies i) (sym at)
              (subst (λ (w : ℕ). state_of (set heard u out) w ≡ state_of lies j) (sym id) here)
          | inr other ↦
              let less : k < j = omega (arith, klt, other) in
              get_or-set_other heard u (slice_index ids k) out (zero_state 0)
              (λ same. other (same_place ids rising k j (omega (arith, less, lt)) lt
              (same ∙ sym id))) ∙ h.told k klow less
        ];
        each = λ w. elim (cases_eq w u) [
          | inl at ↦ inr (record {
            place = j;
            low = h.low;
            high = omega arith;
            id = id ∙ sym at;
            told = ap (state_of (set heard u out)) at ∙ here;
          })
          | inr other ↦ subst (IsSameOrTold ids from (j + 1) lies (state_of start w) w)
              (sym (get_or-set_other heard u w out (zero_state 0) other))
              (longer j w (state_of start w) (state_of heard w) (h.each w))
        ];
      }

  ended : (j u : ℕ) (before state : State) → (from < j → j ≤ to)
      → IsSameOrTold ids from j lies before u state → IsSameOrTold ids from to lies before u state
  ended j u before state high (inl same) = inl same
  ended j u before state high (inr told) = inr (record {
    place = told.place;
    low = told.low;
    high =
        let low = told.low in
        let lt = told.high in
        let some : from < j = omega (arith, low, lt) in
        let end = high some in
        omega (arith, lt, end);
    id = told.id;
    told = told.told;
  })

  -- at the end all are
  pub all_laid : (j : ℕ) (heard : List State) → LiesLaid j heard → (u : ℕ)
      → IsSameOrTold ids from to lies (state_of start u) u (state_of heard u)
  all_laid j heard h u = ended j u (state_of start u) (state_of heard u) h.high (h.each u)
