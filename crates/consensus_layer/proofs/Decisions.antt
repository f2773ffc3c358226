-- Every run with consensus decides.
use Rattle.std.proofs.Common.{◌≡◌, ℕ, ◌+◌, ◌-◌, List, unwrap_or, refl, sym, ap, ◌∙◌, subst, arith}
use Rattle.sync_types.specs.States.{State}
use Rattle.construction.specs.Runs.{IsState}
use Rattle.plan_laws.specs.PlanMeaning.{plan_meaning}
use Rattle.counter_core.specs.Meanings.{Meaning}
use Rattle.layer_laws.specs.Numbers.{numbers_in}
use Rattle.std.specs.Prelude.{slice_index}
use Rattle.layer_laws.specs.CounterLayers.{scene}
use Rattle.layer_laws.specs.CounterSlots.{slot_length, AllAre}
use Rattle.layer_laws.proofs.PlanCounters.{plans_settle}
use Rattle.consensus_layer.specs.Agreeing.{IsAgreeing}
use Rattle.consensus_layer.specs.Agreements.{agree_layer_over, decision, EveryRunDecides}
use Rattle.consensus_layer.specs.Agreements.{EveryRunDecidesOver}
use Rattle.consensus_layer.proofs.Loaded.{slot_decides_over}

agreeing : (counter : Meaning) (values : ℕ) (inputs : List ℕ)
    → IsAgreeing (agree_layer_over (numbers_in counter) values inputs) counter.faults
    (λ v decision. slice_index inputs v)
agreeing counter values inputs = record { extra = refl; step = λ v output kept heard. refl }

pub every_run_decides_over : (counter : Meaning) (is_state : (v : ℕ) → State → Type 0)
    → EveryRunDecidesOver counter is_state
every_run_decides_over counter is_state settling whole values inputs faulty borne first run is t lo
    hi begins =
    let layer = agree_layer_over (numbers_in counter) values inputs in
    let e : t ≡ t - 1 + 1 = omega arith in
    let q : ℕ = slot_length counter.faults in
    let here : t - 1 + q + 1 ≡ t + q = omega arith in
    let slot = slot_decides_over counter is_state settling layer
    (record { nodes = refl; modulus = refl; depth = refl }) (λ v d. slice_index inputs v)
    (agreeing counter values inputs) whole faulty borne first run is (t - 1) (omega arith)
    (omega arith)
    (subst (λ y. AllAre counter faulty (scene run y).states q 0) e begins) in
    record {
      value = slot.value;
      each = λ v vlt ok.
          let d = slot.decides v vlt ok in
          ap (λ y. decision (scene run y) v) (sym here)
          ∙ (d.steps.kept ∙ ap (λ x. unwrap_or x (decision (scene run (t - 1 + q)) v)) d.decided);
      valid = λ common all. slot.valid common all;
    }

pub every_run_decides : EveryRunDecides
every_run_decides plan accepted whole values inputs faulty borne =
    every_run_decides_over (plan_meaning plan) (IsState plan) (plans_settle plan accepted) whole
    values inputs faulty borne
