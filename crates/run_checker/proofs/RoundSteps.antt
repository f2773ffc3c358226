-- The steps of the nodes of one round, one after the other.
use Rattle.std.proofs.Common.{◌≡◌, ℕ, zero, suc, ◌+◌, ◌<◌, ◌≤◌, Bool, true, false, cond, List, []}
use Rattle.std.proofs.Common.{◌∷◌, ◌++◌, length, set, drop, refl, sym, ap, ◌∙◌, subst, arith}
use Rattle.std.proofs.lemmas.List.{append-nil, length-set}
use Rattle.std.proofs.lemmas.List.FromFn.{fill_by_all}
use Rattle.sync_types.specs.States.{State, zero_state}
use Rattle.sync_types.specs.FaultSets.{is_in}
use Rattle.construction.specs.Plans.{Plan, plan_nodes, plan_depth}
use Rattle.construction.specs.Steps.{state_of, step_of}
use Rattle.construction.proofs.Ranges.{step_is_state}
use Rattle.plan_numbers.specs.Premises.{IsAccepted}
use Rattle.plan_laws.specs.PlanMeaning.{IsInRange}
use Rattle.plan_laws.proofs.PlanCounter.{positive}
use Rattle.state_codec.specs.Shapes.{Shape, shape_of, fields_at}
use Rattle.state_codec.specs.Ranges.{InRange}
use Rattle.state_codec.specs.Packs.{Pack}
use Rattle.state_codec.proofs.Plans.{shape_of_accepted, length-moduli_of}
use Rattle.state_codec.proofs.PlanStates.{in_range_of_node}
use Rattle.adversary_script.proofs.LiesInRange.{zero_of_node}
use Rattle.counter_core.specs.Meanings.{written}
use Rattle.run_checker.specs.Grammar.{pairs_of}
use Rattle.machine_runner.proofs.Places.{all_places, set_has}
use Rattle.round_runner.specs.declared.told_steps.StepBuffers.{StepBuffers}
use Rattle.run_checker.specs.Rounds.{stepped_at, stepped_all, state_next, AreStates, IsGathered}
use Rattle.run_checker.proofs.BodyKept.{node_range, node_deep}

-- ---- a step

-- a state that was written over one of the same depth
pub written_over : (depth : ℕ) (s out : State) → length out.registers ≡ depth
    → written depth s out ≡ s
written_over depth s out long =
    ap (λ rs. let r : State = record { x = s.x; registers = s.registers ++ rs } in r)
    (none out.registers depth long)
    ∙ ap (λ rs. let r : State = record { x = s.x; registers = rs } in r) (append-nil s.registers)
  where
    none : {X : Type 0} (xs : List X) (n : ℕ) → length xs ≡ n → drop n xs ≡ []
    none [] zero e = refl
    none [] (suc n) e = refl
    none (x ∷ xs) zero e = absurd (omega (arith, e))
    none (x ∷ xs) (suc n) e = none xs n (omega (arith, e))

-- ---- states of a round

module _ (plan : Plan) (accepted : IsAccepted plan) (pack : Pack)
    (shape : pack.shape ≡ shape_of plan) where
  pub pack_deep : pack.shape.depth ≡ plan_depth plan
  pack_deep = ap (λ (f : Shape). f.depth) shape ∙ length-moduli_of plan.levels

  -- the current states are those of the plan's counter
  module _ (size : length pack.current ≡ plan_nodes plan)
      (each : (v : ℕ) → v < length pack.current
      → InRange (fields_at pack.shape v) (state_of pack.current v)) where
    at : (v : ℕ) → v < length pack.current → InRange (fields_at (shape_of plan) v)
        (state_of pack.current v)
    at v lt = subst (λ (f : Shape). InRange (fields_at f v) (state_of pack.current v)) shape
        (each v lt)

    pub pack_states : AreStates plan pack.current
    pack_states = record {
      deep = all_places (λ s. length s.registers ≡ plan_depth plan) pack.current (λ v lt.
          node_deep plan accepted v (omega (arith, lt, size)) _ (at v lt));
      range = all_places (IsInRange plan) pack.current (λ v lt.
          node_range plan accepted v (omega (arith, lt, size)) _ (at v lt));
    }

  -- the zero state and a step are states of each node
  pub zero_fits : (v : ℕ) (s : State) → s ≡ zero_state (plan_depth plan)
      → InRange (fields_at pack.shape v) s
  zero_fits v s is =
      subst (λ (f : Shape). InRange (fields_at f v) s) (sym shape)
      (subst (InRange (fields_at (shape_of plan) v))
      (ap zero_state (length-moduli_of plan.levels) ∙ sym is)
      (zero_of_node (shape_of plan) v (shape_of_accepted plan accepted)))

  pub step_fits : (v : ℕ) → v < plan_nodes plan → (heard : List State) (s : State)
      → s ≡ step_of plan v heard → InRange (fields_at pack.shape v) s
  step_fits v lt heard s is =
      let some = positive plan.base plan.levels accepted.levels in
      subst (λ (f : Shape). InRange (fields_at f v) s) (sym shape)
      (subst (InRange (fields_at (shape_of plan) v)) (sym is)
      (in_range_of_node plan accepted v lt (step_of plan v heard)
      (step_is_state plan some.0 some.1 v heard)))

-- ---- a configuration whose next one is being written

module _ (plan : Plan) (ids : List ℕ) (told : List State) (config : Pack) (next : List State)
    (now : Pack) (room : StepBuffers) (fixed : now ≡ record config { next = next }) where
  pub gathered_in : IsGathered plan ids told config room → IsGathered plan ids told now room
  gathered_in h = subst (λ (p : Pack). IsGathered plan ids told p room) (sym fixed) (record {
    said = h.said;
    is = record { size = h.is.size; shape = h.is.shape };
    ready = h.ready;
    stands = h.stands;
  })

  pub gathered_out : IsGathered plan ids told now room → IsGathered plan ids told config room
  gathered_out h =
      same_current (subst (λ (p : Pack). IsGathered plan ids told p room) fixed h) where
        same_current : IsGathered plan ids told (record config { next = next }) room
            → IsGathered plan ids told config room
        same_current k = record {
          said = k.said;
          is = record { size = k.is.size; shape = k.is.shape };
          ready = k.ready;
          stands = k.stands;
        }

-- ---- all steps

module _ (plan : Plan) (faulty new : List ℕ) (config told : List State) (v : ℕ) (s : State) where
  pub next_zero : is_in new v ≡ true → s ≡ zero_state (plan_depth plan)
      → s ≡ state_next plan faulty new config told v
  next_zero bad is =
      is ∙ ap (λ (b : Bool). cond b (zero_state (plan_depth plan))
      (stepped_at plan faulty config (pairs_of (plan_nodes plan) faulty) told v)) (sym bad)

  pub next_step : is_in new v ≡ false
      → s ≡ stepped_at plan faulty config (pairs_of (plan_nodes plan) faulty) told v
      → s ≡ state_next plan faulty new config told v
  next_step free is =
      is ∙ ap (λ (b : Bool). cond b (zero_state (plan_depth plan))
      (stepped_at plan faulty config (pairs_of (plan_nodes plan) faulty) told v)) (sym free)

-- the nodes below v have stepped
pub record SteppedBelow (plan : Plan) (faulty new : List ℕ) (config told : List State) (v : ℕ)
    (next : List State) : Type 0 where
  pub size : length next ≡ plan_nodes plan
  pub done : (u : ℕ) → u < v → state_of next u ≡ state_next plan faulty new config told u

module _ (plan : Plan) (faulty new : List ℕ) (config told : List State) where
  pub none_stepped : (next : List State) → length next ≡ plan_nodes plan
      → SteppedBelow plan faulty new config told 0 next
  none_stepped next size = record { size = size; done = λ u lt. absurd (omega (arith, lt)) }

  pub one_stepped : (v : ℕ) (next : List State) → v < plan_nodes plan
      → SteppedBelow plan faulty new config told v next
      → SteppedBelow plan faulty new config told (v + 1)
      (set next v (state_next plan faulty new config told v))
  one_stepped v next lt h = record {
    size = length-set next v (state_next plan faulty new config told v) ∙ h.size;
    done = λ u ult. set_has (λ u s. s ≡ state_next plan faulty new config told u) next v
        (state_next plan faulty new config told v) (omega (arith, lt, h.size)) refl u
        (λ other. h.done u (omega (arith, other, ult)));
  }

  pub all_stepped : (v : ℕ) (next : List State) → plan_nodes plan ≤ v
      → SteppedBelow plan faulty new config told v next
      → next ≡ stepped_all plan faulty new config (pairs_of (plan_nodes plan) faulty) told
  all_stepped v next end h =
      fill_by_all (state_next plan faulty new config told) next (plan_nodes plan) (zero_state 0)
      h.size (λ u lt. h.done u (omega (arith, lt, end)))
