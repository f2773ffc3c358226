-- Why the states of an input are not turned: the line that says so, and the exit code.
use Rattle.std.specs.Prelude.{ℕ, List, [], ◌∷◌, codes, decimal}
use Rattle.std.specs.List.{concat}
use Rattle.sync_types.specs.declared.answers.Premise.{Premise}
use Rattle.sync_types.specs.declared.answers.Premise.TheVariants as premise
use Rattle.plan_reader.specs.declared.refusals.PlanRefusal.{PlanRefusal}
use Rattle.states.specs.declared.faults.Fault.{Fault}
use Rattle.states.specs.declared.faults.Fault.TheVariants as fault
use Rattle.states.specs.declared.reasons.StateReason.{StateReason}
use Rattle.states.specs.declared.reasons.StateReason.TheVariants as reason

abbrev pub usage_text : List ℕ
usage_text = codes "usage: states < STATES, or states --help\n"

abbrev pub premise_name : Premise → List ℕ
premise_name premise.Form = codes "Form"
premise_name premise.Limit = codes "Limit"
premise_name premise.Blocks = codes "Blocks"
premise_name premise.Modulus = codes "Modulus"
premise_name premise.Quorum = codes "Quorum"
premise_name premise.Share = codes "Share"
premise_name premise.Multiple = codes "Multiple"

-- what is said of a line of the input
abbrev pub line_with : (line : ℕ) → (said : List ℕ) → List ℕ
line_with line said = concat (codes "line " ∷ decimal line ∷ said ∷ [])

-- of a line of the plan
abbrev pub plan_line : PlanRefusal → List ℕ
plan_line refusal = concat (
    codes "line " ∷ decimal refusal.line
    ∷ codes " of the plan fails the premise " ∷ premise_name refusal.premise ∷ codes "\n" ∷ [])

-- of the line of a state that should have so many digits
abbrev pub digits_line : (line digits : ℕ) → List ℕ
digits_line line digits = concat (
    codes "line " ∷ decimal line
    ∷ codes " should have " ∷ decimal digits ∷ codes " hex digits, each one of 0-9a-f\n" ∷ [])

-- of the line of a state
abbrev pub fault_line : (line : ℕ) → Fault → List ℕ
fault_line line fault.Form = line_with line
    (codes " should be `node V`, and behind it hex digits or `number X registers R, R`\n")
fault_line line fault.Node = line_with line (codes " names a node that the plan has not\n")
fault_line line (fault.Hex digits) = digits_line line digits
fault_line line fault.Fields = line_with line
    (codes " has other fields than that node, or a number that is not below its modulus\n")

abbrev pub reason_text : StateReason → List ℕ
reason_text (reason.Plan refusal) = plan_line refusal
reason_text (reason.Values refused) = line_with refused.line
    (codes " should be `values V`, V from 2 to 65536, at most twice and with one V\n")
reason_text (reason.Line line fault) = fault_line line fault

-- the code of an input that is refused
abbrev pub code_for : StateReason → ℕ
code_for reason = 1
