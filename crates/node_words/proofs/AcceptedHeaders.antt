-- The plan of a header is accepted, its node is one of the plan, and its state one of that node.
use Rattle.std.proofs.Common.{◌≡◌, ℕ, ◌+◌, ◌<◌, List, Option, None, Result, Ok, Err, subst}
use Rattle.std.specs.Prelude.{IfOk}
use Rattle.texts.specs.Lines.{lines_of}
use Rattle.texts.specs.Parts.{Found, At, with_skips}
use Rattle.texts.specs.Limits.{Limited}
use Rattle.edge_io.specs.FedParts.{limited_part}
use Rattle.sync_types.specs.declared.answers.Premise.{Premise}
use Rattle.sync_types.specs.declared.answers.Premise.TheVariants as premise
use Rattle.sync_types.specs.declared.answers.Rule.{Rule}
use Rattle.sync_types.specs.declared.answers.Rule.TheVariants as rule
use Rattle.construction.specs.Plans.{Plan, plan_nodes}
use Rattle.plan_numbers.specs.Premises.{IsAccepted}
use Rattle.plan_reader.specs.PlanPart.{plan_step, plan_of}
use Rattle.plan_reader.specs.declared.stages.PlanStage.TheVariants.{Unread}
use Rattle.plan_reader.proofs.AcceptedPlans.{plan_accepted}
use Rattle.state_codec.specs.Shapes.{shape_of, moduli_of}
use Rattle.state_codec.proofs.Plans.{shape_of_accepted, nodes_of_shape}
use Rattle.state_codec.proofs.PlanStates.{state_of_node}
use Rattle.node_words.specs.declared.header_lines.NodeHeader.{NodeHeader}
use Rattle.node_words.specs.NodePart.{header_step, nothing_read}
use Rattle.node_words.specs.Fits.{IsFit}
use Rattle.node_words.specs.HeaderParts.{behind_node, behind_plan}
use Rattle.node_words.specs.Headers.{header_in, plan_part}
use Rattle.node_words.specs.HeaderLaws.{IsOfPlan, HeadersAreOfPlans}
use Rattle.node_words.proofs.HeaderFits.{part_fits}
use Rattle.node_words.proofs.Unlimited.{without_room, is_found, whole_text}

-- the plan that is read of the lines of a text, within any limit, is accepted
accepted_by : (text : List ℕ) (found : Result (Found (Option ℕ × Plan)) (At (Limited Premise)))
    → IfOk found (λ f. plan_of text ≡ Ok (without_room f))
    → IfOk found (λ f. IsAccepted (f.value.1))
accepted_by text (Err at) is = tt
accepted_by text (Ok found) is =
    subst (λ r. IfOk r (λ f. IsAccepted f.value)) is (plan_accepted text)

plan_is_accepted : (room : Option ℕ) (text : List ℕ)
    → IfOk (limited_part (with_skips plan_step premise.Form) premise.Form Unread 0 1 room
    (lines_of text)) (λ f. IsAccepted (f.value.1))
plan_is_accepted room text =
    accepted_by text
    (limited_part (with_skips plan_step premise.Form) premise.Form Unread 0 1 room (lines_of text))
    (is_found (with_skips plan_step premise.Form) premise.Form (lines_of text) room Unread 0 1)

of_plan : (plan : Plan) (node : NodeHeader) (lines : ℕ) → IsAccepted plan
    → IsFit (shape_of plan) node → IsOfPlan (record { plan = plan; node = node; lines = lines })
of_plan plan node lines accepted fit =
    let within : node.id < plan_nodes plan =
    subst (λ n. node.id < n) (nodes_of_shape plan (moduli_of plan.levels)) fit.node in
    record {
      accepted = accepted;
      node = within;
      state = state_of_node plan accepted node.id within node.state fit.range;
    }

by_node : (plan : Plan) (lines : ℕ) → IsAccepted plan
    → (found : Result (Found (Option ℕ × NodeHeader)) (At (Limited Rule)))
    → IfOk found (λ f. IsFit (shape_of plan) (f.value.1))
    → IfOk (behind_node {Premise = Premise} plan lines found) IsOfPlan
by_node plan lines accepted (Err at) fits = tt
by_node plan lines accepted (Ok found) fits =
    of_plan plan (found.value.1) (lines + found.taken) accepted fits

by_plan : (found : Result (Found (Option ℕ × Plan)) (At (Limited Premise)))
    → IfOk found (λ f. IsAccepted (f.value.1)) → IfOk (behind_plan plan_part found) IsOfPlan
by_plan (Err at) accepted = tt
by_plan (Ok found) accepted =
    let plan = found.value.1 in
    let start = nothing_read (shape_of plan) in
    by_node plan found.taken accepted
    (limited_part (with_skips header_step rule.Form) rule.Form start 0 (1 + found.taken)
    (found.value.0) found.behind)
    (part_fits (shape_of plan) (shape_of_accepted plan accepted) 0 (1 + found.taken)
    (found.value.0) found.behind)

all_lines : (room : Option ℕ) (text : List ℕ) → IfOk (header_in room (lines_of text)) IsOfPlan
all_lines room text =
    by_plan
    (limited_part (with_skips plan_step premise.Form) premise.Form Unread 0 1 room (lines_of text))
    (plan_is_accepted room text)

pub are_of_plans : HeadersAreOfPlans
are_of_plans = record {
  all = all_lines;
  whole = λ text.
      let whole = whole_text text in
      subst (λ lines. IfOk (header_in None lines) IsOfPlan) whole.is (all_lines None whole.text);
}
