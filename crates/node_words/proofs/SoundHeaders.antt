-- The plan of a header is a sound machine, its node is one of it, and its state one of that node.
use Rattle.std.proofs.Common.{◌≡◌, ℕ, ◌+◌, ◌<◌, List, Option, None, Result, Ok, Err, subst}
use Rattle.std.specs.Prelude.{IfOk}
use Rattle.texts.specs.Lines.{lines_of}
use Rattle.texts.specs.Parts.{Found, At, with_skips, part_from}
use Rattle.texts.specs.Limits.{Limited}
use Rattle.edge_io.specs.FedParts.{limited_part}
use Rattle.sync_types.specs.declared.answers.Rule.{Rule}
use Rattle.sync_types.specs.declared.answers.Rule.TheVariants as rule
use Rattle.state_codec.specs.Shapes.{Fields, IsShape}
use Rattle.state_codec.specs.Ranges.{InRange}
use Rattle.machines.specs.Laws.{IsSound}
use Rattle.node_words.specs.declared.header_lines.NodeHeader.{NodeHeader}
use Rattle.node_words.specs.NodePart.{header_step, nothing_read}
use Rattle.node_words.specs.Fits.{IsFit}
use Rattle.node_words.specs.HeaderParts.{behind_node, behind_plan, header_in}
use Rattle.node_words.proofs.HeaderFits.{part_fits}
use Rattle.node_words.proofs.Unlimited.{without_room, is_found, whole_text}
use Rattle.node_words.specs.Constructions.{Words, IsShaped}
use Rattle.node_words.specs.HeaderPromises.{IsOfMachine, HeadersAreOfMachines}

-- a plan is a sound machine, whose states have the shape with which a header is read
pub record IsServed {Reader Plan Premise : Type 0} (words : Words Reader Plan Premise)
    (plan : Plan) : Type 0 where
  pub sound : IsSound (words.machine plan)
  pub shape : IsShape (words.part.shape plan)
  pub shaped : IsShaped words plan

module _ {Reader Plan Premise : Type 0} (words : Words Reader Plan Premise)
    (Accepted : Plan → Type 0) (serve : (plan : Plan) → Accepted plan → IsServed words plan)
    (read : (text : List ℕ)
    → IfOk (part_from (with_skips words.part.step words.part.form) words.part.form
    words.part.unread 0 1 (lines_of text)) (λ found. Accepted found.value)) where
  accepted_by : (text : List ℕ) (found : Result (Found (Option ℕ × Plan)) (At (Limited Premise)))
      → IfOk found (λ f. part_from (with_skips words.part.step words.part.form) words.part.form
      words.part.unread 0 1 (lines_of text) ≡ Ok (without_room f))
      → IfOk found (λ f. Accepted (f.value.1))
  accepted_by text (Err at) is = tt
  accepted_by text (Ok found) is =
      subst (λ r. IfOk r (λ f. Accepted f.value)) is (read text)

  of_machine : (plan : Plan) (node : NodeHeader) (lines : ℕ) → Accepted plan
      → IsFit (words.part.shape plan) node
      → IsOfMachine words Accepted (record { plan = plan; node = node; lines = lines })
  of_machine plan node lines accepted fit =
      let served = serve plan accepted in
      let within : node.id < (words.machine plan).nodes =
      subst (λ n. node.id < n) served.shaped.nodes fit.node in
      record {
        accepted = accepted;
        sound = served.sound;
        node = within;
        state = subst (λ (f : Fields). InRange f node.state) (served.shaped.fields node.id within)
            fit.range;
      }

  by_node : (plan : Plan) (lines : ℕ) → Accepted plan
      → (found : Result (Found (Option ℕ × NodeHeader)) (At (Limited Rule)))
      → IfOk found (λ f. IsFit (words.part.shape plan) (f.value.1))
      → IfOk (behind_node {Premise = Premise} plan lines found) (IsOfMachine words Accepted)
  by_node plan lines accepted (Err at) fits = tt
  by_node plan lines accepted (Ok found) fits =
      of_machine plan (found.value.1) (lines + found.taken) accepted fits

  by_plan : (found : Result (Found (Option ℕ × Plan)) (At (Limited Premise)))
      → IfOk found (λ f. Accepted (f.value.1))
      → IfOk (behind_plan words.part found) (IsOfMachine words Accepted)
  by_plan (Err at) accepted = tt
  by_plan (Ok found) accepted =
      let plan = found.value.1 in
      let start = nothing_read (words.part.shape plan) in
      by_node plan found.taken accepted
      (limited_part (with_skips header_step rule.Form) rule.Form start 0 (1 + found.taken)
      (found.value.0) found.behind)
      (part_fits (words.part.shape plan) (serve plan accepted).shape 0 (1 + found.taken)
      (found.value.0) found.behind)

  all_lines : (room : Option ℕ) (text : List ℕ)
      → IfOk (header_in words.part room (lines_of text)) (IsOfMachine words Accepted)
  all_lines room text =
      let step = with_skips words.part.step words.part.form in
      let form = words.part.form in
      let found = limited_part step form words.part.unread 0 1 room (lines_of text) in
      by_plan found
      (accepted_by text found (is_found step form (lines_of text) room words.part.unread 0 1))

  pub are_of_machines : HeadersAreOfMachines words Accepted
  are_of_machines = record {
    all = all_lines;
    whole = λ text.
        let whole = whole_text text in
        subst (λ lines. IfOk (header_in words.part None lines) (IsOfMachine words Accepted))
        whole.is
        (all_lines None whole.text);
  }
