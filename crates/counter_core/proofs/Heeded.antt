-- On which lies what is found from what is heard may hang.
use Rattle.std.proofs.Common.{◌≡◌, ℕ, suc, ◌<◌, true, List, [], ◌∷◌, length, inl, inr, sym, ap, ◌∙◌}
use Rattle.std.proofs.Common.{subst, arith}
use Rattle.std.specs.Prelude.{◌==◌, slice_index}
use Rattle.std.proofs.lemmas.Bool.{eqb-true, true≢false, or_cases, cases_Bool}
use Rattle.std.proofs.lemmas.List.{ext_get_or}
use Rattle.sync_types.specs.FaultSets.{is_in}
use Rattle.sync_types.specs.States.{State, zero_state}
use Rattle.construction.specs.Steps.{state_of}
use Rattle.counter_core.specs.Heeding.{DependsOnlyOn}

-- an id that is among others has a place among them
pub place_of : (ids : List ℕ) (u : ℕ) → is_in ids u ≡ true → (j : ℕ) × (j < length ids)
    × (slice_index ids j ≡ u)
place_of [] u is = absurd (true≢false (sym is))
place_of (id ∷ ids) u is = elim (or_cases (u == id) (is_in ids u) is) [
  | inl here ↦ (0, omega arith, sym (eqb-true u id here))
  | inr there ↦ let rest = place_of ids u there in (suc rest.0, omega (arith, rest.1), rest.2)
]

-- if all liars say the same, all is heard the same
pub heeds_all : {Found : Type 0} (find : List State → Found) (faulty : List ℕ) (v : ℕ)
    (config : List State) → DependsOnlyOn find faulty v config 0 (length faulty)
heeds_all find faulty v config heard told first second same =
    ap find (ext_get_or (zero_state 0) heard told (first.size ∙ sym second.size) (λ u lt.
    let inside : u < length config = omega (arith, lt, first.size) in
    elim (cases_Bool (is_in faulty u)) [
      | inl bad ↦
          let p = place_of faulty u bad in
          subst (λ (w : ℕ). state_of heard w ≡ state_of told w) p.2 (same p.0 (omega arith) p.1)
      | inr correct ↦ first.honest u inside correct ∙ sym (second.honest u inside correct)
    ]))
