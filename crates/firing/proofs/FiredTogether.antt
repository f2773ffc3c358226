-- Every run with firing fires together.
use Rattle.std.proofs.Common.{◌≡◌, ℕ, ◌+◌, ◌-◌, ◌%◌, ◌<◌, Bool, true, false, List, Option, Some}
use Rattle.std.proofs.Common.{None, refl, sym, ap, ◌∙◌, subst, arith}
use Rattle.std.specs.Prelude.{nat_eq}
use Rattle.std.specs.Option.{option_eq}
use Rattle.std.proofs.lemmas.Bool.{ne_eqb}
use Rattle.sync_types.specs.declared.states.Reg.{Reg}
use Rattle.sync_types.specs.States.{State}
use Rattle.construction.specs.Steps.{state_of}
use Rattle.construction.specs.Runs.{IsState}
use Rattle.plan_laws.specs.PlanMeaning.{plan_meaning}
use Rattle.counter_core.specs.Meanings.{Meaning}
use Rattle.layer_laws.specs.Numbers.{numbers_in}
use Rattle.layer_laws.specs.CounterLayers.{scene}
use Rattle.layer_laws.specs.Scenes.{kept_of}
use Rattle.layer_laws.specs.CounterSlots.{slot_length, agreed_in_turn, AllAre}
use Rattle.layer_laws.proofs.Settling.{few_of}
use Rattle.layer_laws.proofs.CounterSteps.{node_steps, shows_rest, common_rest}
use Rattle.layer_laws.proofs.CounterSlots.{counts_of}
use Rattle.layer_laws.proofs.PlanCounters.{plans_settle}
use Rattle.consensus_layer.specs.Agreeing.{turned, agree_step, IsAgreeing}
use Rattle.consensus_layer.proofs.Loaded.{slot_decides_over}
use Rattle.firing.specs.declared.requests.Request.{Request}
use Rattle.firing.specs.declared.fires.Fire.{Fire}
use Rattle.firing.specs.Firings.{requests_in, bit, fire_layer_over, fires}
use Rattle.firing.specs.Firings.{EveryRunFiresTogetherOver, EveryRunFiresTogether}

abbrev input : List Request → ℕ → Fire → ℕ
input requests v fire = bit (requests_in requests v fire.round)

agreeing : (counter : Meaning) (requests : List Request)
    → IsAgreeing (fire_layer_over (numbers_in counter) requests) counter.faults (input requests)
agreeing counter requests = record { extra = refl; step = λ v output kept heard. refl }

one_is : (b : Bool) → option_eq nat_eq (Some (bit b)) (Some 1) ≡ b
one_is true = refl
one_is false = refl

-- a round that is not the last of its slot decides nothing
undecided : (n f i v input output x : ℕ) (heard : List State) → output % slot_length f ≡ x
    → x + 1 < slot_length f → (agree_step n f i v input output heard).decided ≡ None
undecided n f i v input output x heard rest lt =
    let turn : ℕ = output % slot_length f in
    let r : Reg = agreed_in_turn n f i v turn heard in
    ap (λ (b : Bool). (turned b input r).decided)
    (ne_eqb (turn + 1) (slot_length f) (λ e. omega (arith, e, rest, lt)))

pub fires_together_over : (counter : Meaning) (is_state : (v : ℕ) → State → Type 0)
    → EveryRunFiresTogetherOver counter is_state
fires_together_over counter is_state settling whole requests faulty borne first run is t lo hi
    begins =
    let layer = fire_layer_over (numbers_in counter) requests in
    let e : t ≡ t - 1 + 1 = omega arith in
    let q : ℕ = slot_length counter.faults in
    let here : t - 1 + q + 1 ≡ t + q = omega arith in
    let slot = slot_decides_over counter is_state settling layer
    (record { nodes = refl; modulus = refl; depth = refl }) (input requests)
    (agreeing counter requests) whole faulty borne first run is (t - 1) (omega arith) (omega arith)
    (subst (λ y. AllAre counter faulty (scene run y).states q 0) e begins) in
    let fired_by : Option ℕ → Bool = λ decided. option_eq nat_eq decided (Some 1) in
    record {
      fired = fired_by (Some slot.value);
      each = λ v vlt ok.
          let d = slot.decides v vlt ok in
          ap (λ y. fires (scene run y) v) (sym here)
          ∙ (ap (λ (k : Fire). k.fired) d.steps.kept ∙ ap fired_by d.decided);
      valid =
          λ common all. ap (λ x. fired_by (Some x))
          (slot.valid (bit common) (λ v vlt ok. ap bit (all v vlt ok)))
          ∙ one_is common;
      quiet = λ x v some xlt vlt ok.
          let r : ℕ = t + (x - 1) in
          let there : r + 1 ≡ t + x = omega arith in
          let front = settling.front in
          let few = few_of counter faulty borne in
          let quorum = settling.quorum in
          let counts = counts_of counter is_state layer settling faulty borne first run is in
          let zero = common_rest counter is_state layer faulty first run is front counts q t 0
          (omega (arith, few, quorum)) (omega arith) (omega arith) begins in
          let steps = node_steps counter is_state layer faulty first run is r v (omega arith) vlt ok
          in
          let kept : Fire = layer.begun (first + r) (kept_of layer (scene run r) v) in
          let rest = ap (λ st. counter.shows v st % q) (steps.honest v vlt ok)
          ∙ shows_rest counter is_state layer faulty first run is front counts q t (x - 1) v whole
          (omega arith) zero (omega arith) (omega arith) vlt ok in
          ap (λ y. fires (scene run y) v) (sym there)
          ∙ (ap (λ (k : Fire). k.fired) steps.steps.kept
          ∙ ap fired_by
          (undecided counter.nodes counter.faults counter.depth v
          (input requests v kept) (counter.shows v (state_of steps.heard v)) (x - 1)
          steps.heard rest (omega arith)));
    }

pub fires_together : EveryRunFiresTogether
fires_together plan accepted whole requests faulty borne =
    fires_together_over (plan_meaning plan) (IsState plan) (plans_settle plan accepted) whole
    requests faulty borne
