-- Every run with consensus decides, also if inputs change.
use Rattle.std.proofs.Common.{◌≡◌, ℕ, ◌+◌, ◌-◌, unwrap_or, refl, sym, ap, ◌∙◌, subst, arith}
use Rattle.sync_types.specs.States.{State}
use Rattle.construction.specs.Runs.{IsState}
use Rattle.plan_laws.specs.PlanMeaning.{plan_meaning}
use Rattle.counter_core.specs.Meanings.{Meaning}
use Rattle.layer_laws.specs.Numbers.{numbers_in}
use Rattle.layer_laws.specs.CounterLayers.{scene}
use Rattle.layer_laws.specs.Scenes.{kept_of}
use Rattle.layer_laws.specs.CounterSlots.{slot_length, AllAre}
use Rattle.layer_laws.proofs.PlanCounters.{plans_settle}
use Rattle.consensus_layer.specs.Agreeing.{IsAgreeing}
use Rattle.consensus_layer.specs.ChangingInputs.{Noted, changing_layer_over}
use Rattle.consensus_layer.specs.ChangingInputs.{ChangingInputsDecide, ChangingInputsDecideOver}
use Rattle.consensus_layer.proofs.Loaded.{slot_decides_over}

agreeing : (counter : Meaning) (values : ℕ) (input : (v t : ℕ) → ℕ)
    → IsAgreeing (changing_layer_over (numbers_in counter) values input) counter.faults
    (λ v noted. input v noted.round)
agreeing counter values input = record { extra = refl; step = λ v output kept heard. refl }

pub changing_inputs_decide_over : (counter : Meaning) (is_state : (v : ℕ) → State → Type 0)
    → ChangingInputsDecideOver counter is_state
changing_inputs_decide_over counter is_state settling whole values input faulty borne first run is t
    lo hi begins =
    let layer = changing_layer_over (numbers_in counter) values input in
    let e : t ≡ t - 1 + 1 = omega arith in
    let q : ℕ = slot_length counter.faults in
    let here : t - 1 + q + 1 ≡ t + q = omega arith in
    let slot = slot_decides_over counter is_state settling layer
    (record { nodes = refl; modulus = refl; depth = refl }) (λ v noted. input v noted.round)
    (agreeing counter values input) whole faulty borne first run is (t - 1) (omega arith)
    (omega arith)
    (subst (λ y. AllAre counter faulty (scene run y).states q 0) e begins) in
    record {
      value = slot.value;
      each = λ v vlt ok.
          let d = slot.decides v vlt ok in
          ap (λ y. (kept_of layer (scene run y) v).decision) (sym here)
          ∙ (ap (λ (noted : Noted). noted.decision) d.steps.kept
          ∙ ap (λ x. unwrap_or x (kept_of layer (scene run (t - 1 + q)) v).decision) d.decided);
      valid = λ common all. slot.valid common all;
    }

pub changing_inputs_decide : ChangingInputsDecide
changing_inputs_decide plan accepted whole values input faulty borne =
    changing_inputs_decide_over (plan_meaning plan) (IsState plan) (plans_settle plan accepted)
    whole values input faulty borne
