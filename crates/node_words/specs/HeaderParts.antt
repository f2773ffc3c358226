-- A header of any construction: a plan, as its part is read, and then a node part.
use Rattle.std.specs.Prelude.{ℕ, ◌+◌, List, Option, Some, None, Result, Ok, Err}
use Rattle.texts.specs.Parts.{Next, Found, At, with_skips}
use Rattle.texts.specs.Limits.{Limited, by, beyond}
use Rattle.edge_io.specs.FedParts.{limited_part}
use Rattle.sync_types.specs.declared.answers.Rule.{Rule}
use Rattle.sync_types.specs.declared.answers.Rule.TheVariants as rule
use Rattle.state_codec.specs.Shapes.{Shape}
use Rattle.node_words.specs.declared.header_lines.NodeHeader.{NodeHeader}
use Rattle.node_words.specs.declared.headers.HeaderRefusal.{HeaderRefusal}
use Rattle.node_words.specs.declared.headers.HeaderRefusal.TheVariants as refusal
use Rattle.node_words.specs.NodePart.{header_step, nothing_read}

-- How a plan is read: by each line of its part, from where nothing was read on; a part without an
-- end is refused `form`. And the shape of the states of a plan.
pub record PlanPart (Reader Plan Premise : Type 0) : Type 0 where
  pub step : Reader → List ℕ → Next Reader Plan Premise
  pub unread : Reader
  pub form : Premise
  pub shape : Plan → Shape

abbrev pub read_by : {Reader Plan Premise : Type 0}
    → (step : Reader → List ℕ → Next Reader Plan Premise) → (unread : Reader) → (form : Premise)
    → (shape : Plan → Shape) → PlanPart Reader Plan Premise
read_by step unread form shape =
    record { step = step; unread = unread; form = form; shape = shape }

-- a header: its plan, its node, and how many lines it has
pub record HeaderOf (Plan : Type 0) : Type 0 where
  pub plan : Plan
  pub node : NodeHeader
  pub lines : ℕ

-- the refusal of a line; None: the header is too long
abbrev pub plan_refused : {Premise : Type 0} → ℕ → Limited Premise → Option (HeaderRefusal Premise)
plan_refused line (by p) = Some (refusal.Plan line p)
plan_refused line beyond = None

abbrev pub node_refused : {Premise : Type 0} → ℕ → Limited Rule → Option (HeaderRefusal Premise)
node_refused line (by r) = Some (refusal.Node line r)
node_refused line beyond = None

abbrev pub behind_node : {Plan Premise : Type 0} → Plan → ℕ
    → Result (Found (Option ℕ × NodeHeader)) (At (Limited Rule))
    → Result (HeaderOf Plan) (Option (HeaderRefusal Premise))
behind_node plan lines (Err at) = Err (node_refused at.line at.rule)
behind_node plan lines (Ok found) =
    Ok (record { plan = plan; node = found.value.1; lines = lines + found.taken })

module _ {Reader Plan Premise : Type 0} (plans : PlanPart Reader Plan Premise) where
  abbrev pub behind_plan : Result (Found (Option ℕ × Plan)) (At (Limited Premise))
      → Result (HeaderOf Plan) (Option (HeaderRefusal Premise))
  behind_plan (Err at) = Err (plan_refused at.line at.rule)
  behind_plan (Ok found) =
      let plan = found.value.1 in
      behind_node plan found.taken
      (limited_part (with_skips header_step rule.Form) rule.Form (nothing_read (plans.shape plan))
      0 (1 + found.taken) (found.value.0) found.behind)

  -- the header of these lines, if so many bytes may be read
  abbrev pub header_in : Option ℕ → List (List ℕ)
      → Result (HeaderOf Plan) (Option (HeaderRefusal Premise))
  header_in room lines =
      behind_plan
      (limited_part (with_skips plans.step plans.form) plans.form plans.unread 0 1 room lines)
