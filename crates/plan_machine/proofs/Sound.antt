-- The machine of an accepted plan is sound.
use Rattle.std.proofs.Common.{◌∙◌}
use Rattle.construction.proofs.Ranges.{step_is_state}
use Rattle.plan_numbers.proofs.Accepted.{accepted_sized}
use Rattle.plan_laws.proofs.PlanCounter.{positive, plan_ignores, plan_sizes}
use Rattle.plan_laws.proofs.Ranges.{range_of_state}
use Rattle.plan_laws.proofs.RunLaws.{every_plan_settles, locks_at_bound, locked_runs_count}
use Rattle.state_codec.specs.Shapes.{shape_of}
use Rattle.state_codec.proofs.Lows.{fields_limited, depth_at}
use Rattle.state_codec.proofs.Plans.{shape_of_accepted, depth_of_shape}
use Rattle.plan_machine.specs.PlanMachines.{AcceptedAreSound}
use Rattle.plan_machine.proofs.PlanMachines.{are_alike}

pub accepted_are_sound : AcceptedAreSound
accepted_are_sound plan accepted =
    let sized = accepted_sized plan.base plan.levels accepted.levels in
    let some = positive plan.base plan.levels accepted.levels in
    let alike = are_alike plan accepted in
    let shape_is = shape_of_accepted plan accepted in record {
      quorum = sized.quorum;
      few = sized.most;
      least_modulus = sized.least_modulus;
      most_modulus = sized.most_modulus;
      fields = λ v lt. fields_limited (shape_of plan) v shape_is;
      depth = λ v lt. depth_at (shape_of plan) v ∙ depth_of_shape plan;
      shown = λ v lt state is.
          (plan_sizes plan accepted).shown v state lt
          (range_of_state plan some.0 some.1 v state ((alike.states v state lt).1 is));
      next = λ v lt heard.
          (alike.states v _ lt).0 (step_is_state plan some.0 some.1 v heard);
      further = record {
        shows = λ v lt state. (plan_ignores plan accepted).shows v state lt;
        step = λ v lt heard size. (plan_ignores plan accepted).next v heard lt size;
      };
      settles = alike.settles.0 (every_plan_settles plan accepted);
      locks = λ faulty run borne is long.
          (alike.locks faulty _).0
          (locks_at_bound plan accepted faulty run borne ((alike.runs faulty run).1 is) long);
      stays = λ faulty run borne is from lt locked.
          let stays = locked_runs_count plan accepted faulty run borne
          ((alike.runs faulty run).1 is) from lt ((alike.locks faulty _).1 locked) in
          record {
            locked = λ t le within. (alike.locks faulty _).0 (stays.locked t le within);
            counts = stays.counts;
          };
    }
