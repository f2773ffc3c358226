-- What the answer of `find` promises, whatever the input.
use Rattle.std.specs.Prelude.{◌≡◌, ℕ, ◌≤◌, List, Option, Result, Ok, IfOk}
use Rattle.construction.specs.Plans.{Plan, plan_nodes, plan_faults, plan_bound}
use Rattle.plan_numbers.specs.Premises.{IsAccepted}
use Rattle.plan_finder.specs.declared.wants.Want.{Want}
use Rattle.plan_finder.specs.declared.pots.Pot.{Pot}
use Rattle.plan_finder.specs.FindText.{find_text}
use Rattle.plan_finder.specs.Potentials.{bound_in, IsBoundOf}
use Rattle.plan_finder.specs.FindLaws.{IsAnswerFor}
use Rattle.outcomes.specs.declared.refusals.Refusal.{Refusal}
use Rattle.outcomes.specs.declared.commands.Batch.TheVariants as batch
use Rattle.outcomes.specs.Inputs.{wants_of}
use Rattle.outcomes.specs.Answers.{answer_of}

-- The answer is the text of a plan, or of none, and of pairs. The plan is the least accepted one
-- that meets the wants, none exactly if no plan does; the pairs have their least costs. Every
-- accepted plan of version 1 with just so many faults and at most so many nodes, whatever it counts
-- by, settles in no less than the plan that is answered, and if none is, there is none.
pub record IsFound (answer : Result (List ℕ) Refusal) (want : Want) : Type 0 where
  pub plan : Option Plan
  pub pots : List Pot
  pub text : answer ≡ Ok (find_text plan pots)
  pub is : IsAnswerFor want plan pots
  pub bounds : (other : Plan) → IsAccepted other → other.version ≡ 1
      → plan_faults other ≡ want.faults → plan_nodes other ≤ want.most
      → IsBoundOf (bound_in plan) (plan_bound other)

-- if the wants of an input are read, the least plan is answered
abbrev pub LeastIsFound : Type 0
LeastIsFound = (input : List ℕ) → IfOk (wants_of input) (IsFound (answer_of batch.Find input))
