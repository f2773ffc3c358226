-- Lists of zero states.
use Rattle.std.proofs.Common.{◌≡◌, ℕ, ◌≤◌, List, length, replicate, sym, subst, arith}
use Rattle.std.proofs.lemmas.List.{length-replicate, take-replicate}
use Rattle.std.proofs.lemmas.List.Elements.{All-replicate}
use Rattle.sync_types.specs.States.{State, zero_state, zero_register}
use Rattle.sync_types.specs.declared.states.Reg.{Reg}
use Rattle.construction.specs.Plans.{Plan, plan_nodes, plan_depth}
use Rattle.plan_numbers.specs.Premises.{IsAccepted}
use Rattle.plan_laws.specs.PlanMeaning.{IsInRange, InRange}
use Rattle.plan_laws.proofs.PlanCounter.{plan_zero}
use Rattle.plan_laws.proofs.Ranges.{range_from_cut}
use Rattle.round_runner.specs.Hearing.{AreLies}

module _ (plan : Plan) (accepted : IsAccepted plan) (depth : ℕ) (room : plan_depth plan ≤ depth)
  where
    -- the counter takes a zero state, also with further registers
    zero_in_range : IsInRange plan (zero_state depth)
    zero_in_range =
        let zero = plan_zero plan accepted in
        record {
          x = zero.x;
          values = range_from_cut plan.levels (plan_depth plan) (omega arith) (zero_state depth)
              (subst (λ (registers : List Reg). InRange plan.levels (record {
                x = 0;
                registers = registers;
              })) (sym (take-replicate (plan_depth plan) depth zero_register room)) zero.values);
        }

    pub zero_lies : (lies : List State) → lies ≡ replicate (plan_nodes plan) (zero_state depth)
        → AreLies plan depth lies
    zero_lies lies is = subst (AreLies plan depth) (sym is) (record {
      size = length-replicate (plan_nodes plan) (zero_state depth);
      deep = All-replicate (λ (s : State). length s.registers ≡ depth) (plan_nodes plan)
          (zero_state depth) (length-replicate depth zero_register);
      range = All-replicate (IsInRange plan) (plan_nodes plan) (zero_state depth) zero_in_range;
    })
