-- A run of an accepted plan is a run of its counter, and of the nested one.
use Rattle.std.proofs.Common.{◌≡◌, ℕ, ◌+◌, ◌-◌, ◌<◌, Bool, true, false, eqb, not, ◌||◌, cond, List}
use Rattle.std.proofs.Common.{[], length, get_or, map, All, sym, ap, ◌∙◌, subst, arith}
use Rattle.std.specs.List.{range_with_len}
use Rattle.std.proofs.Math.Bool.{or-true}
use Rattle.std.proofs.lemmas.List.{take_all}
use Rattle.std.proofs.lemmas.List.Elements.{All-weaker, All-get_or}
use Rattle.std.proofs.lemmas.List.FromFn.{length-map-range_with_len, get_or-map-range_with_len}
use Rattle.sync_types.specs.declared.states.Reg.{Reg}
use Rattle.sync_types.specs.States.{State, zero_state}
use Rattle.construction.specs.Plans.{Plan, plan_nodes, plan_depth}
use Rattle.construction.specs.Steps.{state_of, step_of}
use Rattle.construction.specs.Runs.{is_in, configuration, IsState, IsConfiguration, IsTable}
use Rattle.construction.specs.Runs.{heard_of, heard_by, Round}
use Rattle.construction.specs.Runs as plan_runs
use Rattle.construction.proofs.Ranges.{length-step_in}
use Rattle.plan_numbers.specs.Premises.{IsAccepted}
use Rattle.counter_core.specs.Meanings.{cut}
use Rattle.counter_core.specs.Runs.{Run, Steps}
use Rattle.counter_core.specs.RunsByPlace.{RunByPlace}
use Rattle.counter_core.proofs.StateLists.{each_below, choice_is}
use Rattle.plan_laws.specs.PlanMeaning.{plan_meaning, IsInRange}
use Rattle.plan_laws.specs.Nested.{meaning_of, NestedRange}
use Rattle.plan_laws.proofs.Explained.{explains}
use Rattle.plan_laws.proofs.NestedSettles.{nested_range}
use Rattle.plan_laws.proofs.PlanCounter.{positive}
use Rattle.plan_laws.proofs.Ranges.{range_of_state}

module _ (plan : Plan) (accepted : IsAccepted plan) where
  -- a state of a node of the plan is in range
  pub range_of : (v : ℕ) (s : State) → IsState plan v s → IsInRange plan s
  range_of v s is = let some =
      positive plan.base plan.levels accepted.levels in range_of_state plan some.0 some.1 v s is

  -- a step gives no further registers
  pub cut_step : (v : ℕ) (heard : List State)
      → cut (plan_depth plan) (step_of plan v heard) ≡ step_of plan v heard
  cut_step v heard =
      ap (λ (registers : List Reg). record { x = (step_of plan v heard).x; registers = registers })
      (take_all (plan_depth plan) (step_of plan v heard).registers
      (omega (arith, length-step_in plan.base plan.levels v heard)))

  module _ (faulty : List ℕ) where
    heard_is : (old : List State) (lies : List (List State)) (v u : ℕ) → IsConfiguration plan old
        → IsTable plan lies → v < plan_nodes plan → u < plan_nodes plan
        → IsState plan u (heard_of faulty old lies v u)
    heard_is old lies v u is table vlt ult =
        let row : List State = get_or lies u [] in
        let told = table.rows u ult in
        choice_is (IsState plan u) (eqb u v || not (is_in faulty u)) (state_of old u)
        (state_of row v)
        (is.states u ult)
        (All-get_or (IsState plan u) row v (zero_state 0) (let s = told.size in omega arith)
        told.states)

    -- a node's round
    node_steps : (old new : List State) (lies : List (List State)) (v : ℕ)
        → IsConfiguration plan old → Round plan faulty old lies new → v < plan_nodes plan
        → is_in faulty v ≡ false
        → Steps (plan_meaning plan) (IsInRange plan) faulty old v (state_of new v)
    node_steps old new lies v is round vlt correct =
        let n : ℕ = plan_nodes plan in
        let f : ℕ → State = heard_of faulty old lies v in
        record {
          heard = heard_by n faulty old lies v;
          hears = record {
            size = length-map-range_with_len f 0 n;
            range = each_below (IsInRange plan) f n
                (λ u ult. range_of u (f u) (heard_is old lies v u is round.table vlt ult));
            honest = λ u ult uok.
                get_or-map-range_with_len f 0 n u u (zero_state 0) ult (omega arith)
                ∙ (ap (λ b.
                cond (eqb u v || not b) (state_of old u) (state_of (get_or lies u []) v)) uok
                ∙ ap (λ b. cond b (state_of old u) (state_of (get_or lies u []) v))
                (or-true (eqb u v)));
          };
          step = ap (cut (plan_depth plan)) (round.steps v vlt correct)
              ∙ cut_step v (heard_by n faulty old lies v);
        }

    pub counter_run : (run : List (List State)) → plan_runs.Run plan faulty run
        → Run (plan_meaning plan) (IsInRange plan) faulty run
    counter_run run is =
        let at : (t : ℕ) → t < length run → IsConfiguration plan (configuration run t) =
        λ t lt. All-get_or (IsConfiguration plan) run t [] lt is.configurations in
        record {
          range = λ t v tlt vlt correct.
              range_of v (state_of (configuration run t) v) ((at t tlt).states v vlt);
          steps = λ t v tlt vlt correct. let next =
              is.rounds t tlt in
              node_steps (configuration run t) (configuration run (t + 1)) next.lies v
              (at t (omega arith)) next.round vlt correct;
        }

    -- a run of the plan's counter, by place, as one of the nested counter
    pub nested_run : (run : List (List State)) → 0 < length run
        → Run (plan_meaning plan) (IsInRange plan) faulty run
        → RunByPlace (meaning_of plan.base plan.levels) (NestedRange plan.base plan.levels)
        (is_in faulty) (length run - 1) (λ t v. state_of (configuration run t) v)
    nested_run run some is =
        let m = meaning_of plan.base plan.levels in
        let e = explains plan.base plan.levels in
        let inside : (s : State) → IsInRange plan s → NestedRange plan.base plan.levels s =
        λ s range. nested_range plan.base plan.levels s range.x range.values in
        record {
          range = λ t v hi vlt correct.
              inside (state_of (configuration run t) v)
              (is.range t v (omega arith) (omega (arith, e.nodes)) correct);
          steps = λ t v hi vlt correct.
              let lt : v < plan_nodes plan = omega (arith, e.nodes) in
              let s = is.steps t v (omega arith) lt correct in
              record {
                heard = s.heard;
                hears = record {
                  size = s.hears.size ∙ sym e.nodes;
                  range = All-weaker (IsInRange plan) (NestedRange plan.base plan.levels) inside
                      s.heard s.hears.range;
                  honest = λ u ult uok. s.hears.honest u (omega (arith, e.nodes)) uok;
                };
                step = ap (λ d. cut d (state_of (configuration run (t + 1)) v)) e.depth
                    ∙ (s.step ∙ sym (e.next v s.heard s.hears.size));
              };
        }
