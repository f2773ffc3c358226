-- What holds of every header that is read.
use Rattle.std.specs.Prelude.{◌<◌, List, ℕ, Option, None, IfOk}
use Rattle.texts.specs.Lines.{lines_of, whole_lines}
use Rattle.construction.specs.Plans.{plan_nodes}
use Rattle.construction.specs.Runs.{IsState}
use Rattle.plan_numbers.specs.Premises.{IsAccepted}
use Rattle.node_words.specs.Headers.{Header, header_in}

-- its plan is accepted, its id is that of a node of the plan, and its state is one of that node
pub record IsOfPlan (h : Header) : Type 0 where
  pub accepted : IsAccepted h.plan
  pub node : h.node.id < plan_nodes h.plan
  pub state : IsState h.plan h.node.id h.node.state

-- so it is of all lines of a text, within any limit, and of those that are ended by a newline
pub record HeadersAreOfPlans : Type 0 where
  pub all : (room : Option ℕ) (text : List ℕ) → IfOk (header_in room (lines_of text)) IsOfPlan
  pub whole : (text : List ℕ) → IfOk (header_in None (whole_lines text)) IsOfPlan
