-- A round of a plan that is counted once is one of its machine.
use Rattle.std.proofs.Common.{◌≡◌, ℕ, ◌<◌, ◌≤◌, List, length, map, sym}
use Rattle.std.proofs.Common.{ap, ◌∙◌, subst, arith}
use Rattle.std.specs.Prelude.{slice_index}
use Rattle.std.proofs.lemmas.List.{length-map, get_or-map}
use Rattle.std.proofs.lemmas.List.Elements.{All-from_get_or}
use Rattle.sync_types.specs.States.{State, zero_state}
use Rattle.construction.specs.Plans.{Plan, plan_nodes, plan_depth}
use Rattle.construction.specs.Steps.{state_of, step_of}
use Rattle.plan_laws.specs.PlanMeaning.{IsInRange}
use Rattle.plan_laws.proofs.Ranges.{state_of-cut}
use Rattle.state_codec.specs.Shapes.{Shape}
use Rattle.counter_core.specs.Meanings.{cut}
use Rattle.counter_core.specs.Heeding.{HearsTruth, DependsOnlyOn}
use Rattle.shared_board.specs.Sharing.{Shares, place_among, heard_with, stands_for, Tells}
use Rattle.tower.specs.Told.{AreTold}
use Rattle.tower.proofs.Further.{step_cut}
use Rattle.rounds.specs.Rounds.{Sent, AreLies}
use Rattle.rounds.proofs.Hearing.{stands_at, laid_is}
use Rattle.plan_machine.specs.PlanMachines.{machine_of_plan}
use Rattle.plan_machine.specs.PlanRounds.{StandsFor}
use Rattle.plan_machine.specs.Kept.{IsValidPlanMachine}
use Rattle.plan_machine.proofs.Kept.{front_range}

module _ (plan : Plan) (sent : Sent) (shared : Shares) (is : StandsFor plan sent shared) where
  pub states_long : length shared.states ≡ plan_nodes plan
  states_long = ap (λ (s : Shares). length s.states) is.is
      ∙ length-map sent.config (cut (plan_depth plan)) ∙ is.size

  -- it stands for the configuration and its own liars
  pub stands_so : shared ≡ stands_for plan sent.config shared.faulty
  stands_so = is.is
      ∙ ap (stands_for plan sent.config) (sym (ap (λ (s : Shares). s.faulty) is.is))

  -- a list of lies in which v says its own state to itself
  pub tells : (v : ℕ) (lies : List State) → length lies ≡ length sent.faulty
      → ((j : ℕ) → j < length sent.faulty → slice_index sent.faulty j ≡ v
      → state_of lies j ≡ state_of sent.config v) → Tells shared v lies
  tells v lies long own = subst (λ (s : Shares). Tells s v lies) (sym is.is) (record {
    size = long;
    own = λ bad.
        let stands = stands_at sent.faulty v is.rising bad in
        ap (cut (plan_depth plan)) (own (place_among sent.faulty v) stands.lt stands.is)
        ∙ sym (state_of-cut (plan_depth plan) sent.config v);
  })

  pub told : (shape : Shape) (kept : IsValidPlanMachine plan shape) (v : ℕ) (lies : List State)
      → AreLies (machine_of_plan plan) sent v lies → AreTold plan lies
  told shape kept v lies are = record {
    range = All-from_get_or (IsInRange plan) lies (zero_state 0) (λ j lt.
        let inside : j < length sent.faulty = omega (arith, lt, are.size) in
        front_range plan shape kept (slice_index sent.faulty j) (is.ids j 0 inside) _
        (are.fronts j inside));
    deep = All-from_get_or (λ s. plan_depth plan ≤ length s.registers) lies (zero_state 0) (λ j lt.
        (are.fronts j (omega (arith, lt, are.size))).deep);
  }

  -- what is said by a list in which the true states stand
  module _ (v : ℕ) (heard : List State) (truth : HearsTruth sent.faulty v sent.config heard) where
    abbrev said : List State
    said = map (λ id. state_of heard id) sent.faulty

    pub said_at : (j : ℕ) → j < length sent.faulty
        → state_of said j ≡ state_of heard (slice_index sent.faulty j)
    said_at j lt = get_or-map (λ id. state_of heard id) sent.faulty j 0 (zero_state 0) lt

    pub said_tells : Tells shared v said
    said_tells = tells v said (length-map sent.faulty (λ id. state_of heard id))
        (λ j lt mine. said_at j lt ∙ ap (state_of heard) mine ∙ truth.own)

    pub step_said : step_of plan v (heard_with shared.faulty said shared.states)
        ≡ step_of plan v heard
    step_said =
        ap (λ (s : Shares). step_of plan v (heard_with s.faulty said s.states)) is.is
        ∙ step_cut plan v sent.faulty said sent.config
        ∙ ap (step_of plan v) (sym (laid_is sent.faulty is.rising said sent.config heard truth.size
        truth.honest (λ j lt. sym (said_at j lt))))

  -- the step hangs on the lies of a stretch alone
  pub depends : (v from to : ℕ) → to ≤ length sent.faulty
      → ((lies told : List State) → Tells shared v lies → Tells shared v told
      → ((j : ℕ) → from ≤ j → j < to → state_of lies j ≡ state_of told j)
      → step_of plan v (heard_with shared.faulty lies shared.states)
      ≡ step_of plan v (heard_with shared.faulty told shared.states))
      → DependsOnlyOn (step_of plan v) sent.faulty v sent.config from to
  depends v from to within enough heard told one other same =
      sym (step_said v heard one)
      ∙ enough (said v heard one) (said v told other) (said_tells v heard one)
      (said_tells v told other) (λ j low high.
      let lt : j < length sent.faulty = omega (arith, high, within) in
      said_at v heard one j lt ∙ same j low high ∙ sym (said_at v told other j lt))
      ∙ step_said v told other
