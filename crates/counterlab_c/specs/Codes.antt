-- What a call answers, in numbers.
use Rattle.std.specs.Prelude.{ℕ, Result, Ok, Err}
use Rattle.sync_types.specs.declared.answers.Premise.{Premise}
use Rattle.sync_types.specs.declared.answers.Premise.TheVariants as premise
use Rattle.halving_plan.specs.declared.premises.HalvingPremise.TheVariants as halving
use Rattle.halving_texts.specs.declared.premises.LinePremise.{LinePremise}
use Rattle.halving_texts.specs.declared.premises.LinePremise.TheVariants as line
use Rattle.node_calls.specs.declared.any_machines.AnyMachine.{AnyMachine}
use Rattle.node_calls.specs.Machines.{machine_of}
use Rattle.node_calls.specs.declared.errors.CallError.{CallError}
use Rattle.node_calls.specs.declared.errors.CallError.TheVariants as error
use Rattle.counterlab_c.specs.declared.answers.Answer.{Answer}
use Rattle.counterlab_c.specs.declared.answers.PlanNumbers.{PlanNumbers}

-- the number of a premise
abbrev pub premise_number : Premise → ℕ
premise_number premise.Form = 1
premise_number premise.Limit = 2
premise_number premise.Blocks = 3
premise_number premise.Modulus = 4
premise_number premise.Quorum = 5
premise_number premise.Share = 6
premise_number premise.Multiple = 7

-- that of a premise of a halving plan: the same for the same name
abbrev pub halving_premise_number : LinePremise → ℕ
halving_premise_number line.Form = 1
halving_premise_number (line.Plan halving.Limit) = 2
halving_premise_number (line.Plan halving.Modulus) = 4
halving_premise_number (line.Plan halving.Quorum) = 5
halving_premise_number (line.Plan halving.Single) = 8

abbrev pub in_numbers : (code detail value : ℕ) → Answer
in_numbers code detail value = record { code = code; detail = detail; value = value }

-- a number that is answered, or an error
abbrev pub answer_of : Result ℕ CallError → Answer
answer_of (Ok number) = in_numbers 0 0 number
answer_of (Err (error.Refused refusal)) =
    in_numbers 1 (premise_number refusal.premise) refusal.line
answer_of (Err (error.HalvingRefused refusal)) =
    in_numbers 1 (halving_premise_number refusal.premise) refusal.line
answer_of (Err error.Node) = in_numbers 3 1 0
answer_of (Err error.Length) = in_numbers 3 2 0
answer_of (Err (error.Cut packet sender)) = in_numbers 9 sender packet
answer_of (Err error.TooLong) = in_numbers 8 0 0
answer_of (Err error.NoMemory) = in_numbers 10 0 0

-- the numbers of a counter
abbrev pub numbers_of : AnyMachine → PlanNumbers
numbers_of counter =
    let m = machine_of counter in
    record { nodes = m.nodes; faults = m.faults; modulus = m.modulus; bound = m.bound }
