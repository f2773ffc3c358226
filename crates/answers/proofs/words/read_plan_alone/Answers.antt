use Rattle.std.proofs.Common.{ap}
use Rattle.outcomes.specs.Inputs.{in_plan, or_refusal}
use Rattle.answers.proofs.Unwritten.{refuses_plan}
use Rattle.answers.proofs.words.read_plan_alone.Goals as goal

pub returns-in-Ok : goal.returns-in-Ok
returns-in-Ok c = ap (or_refusal in_plan) c.in-Ok.ensures

pub returns-in-Err : goal.returns-in-Err
returns-in-Err c = rw c.from.ensures (refuses_plan _ _ c.in-Err.ensures)
