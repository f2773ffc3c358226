-- What the answer of `find` promises, by what its wants are read as.
use Rattle.std.proofs.Common.{Result, Ok, Err, refl}
use Rattle.std.specs.Prelude.{IfOk}
use Rattle.texts.specs.Parts.{At}
use Rattle.sync_types.specs.declared.answers.Rule.{Rule}
use Rattle.plan_finder.specs.declared.wants.Want.{Want}
use Rattle.plan_finder.specs.FindPart.{want_of}
use Rattle.plan_finder.specs.Potentials.{bound_in, PotentialsBound}
use Rattle.plan_finder.specs.FindLaws.{IsAnswerFor, FindsLeast}
use Rattle.plan_finder.specs.Least.{find_plan, costs_of}
use Rattle.sync_types.specs.declared.answers.Part.TheVariants as part
use Rattle.outcomes.specs.Inputs.{in_part, or_refusal}
use Rattle.outcomes.specs.Answers.{text_by, text_for_want}
use Rattle.promises.specs.FindPromises.{IsFound, LeastIsFound}

found_by : PotentialsBound → (read : Result Want (At Rule))
    → IfOk read (λ want. IsAnswerFor want (find_plan want.faults want.modulus want.most)
    (costs_of want.most))
    → IfOk (or_refusal (in_part part.Find) read)
    (IsFound (text_by text_for_want (or_refusal (in_part part.Find) read)))
found_by bound (Ok want) is =
    let plan = find_plan want.faults want.modulus want.most in
    record {
      plan = plan;
      pots = costs_of want.most;
      text = refl;
      is = is;
      bounds = bound want.faults want.most (bound_in plan) (costs_of want.most) is.passes;
    }
found_by bound (Err at) is = tt

pub least_found : FindsLeast → PotentialsBound → LeastIsFound
least_found law bound input = found_by bound (want_of input) (law input)
