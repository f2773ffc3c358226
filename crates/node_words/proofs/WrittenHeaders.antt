-- The text of a header is read as that header, even if more follows than a header may have.
use Rattle.std.proofs.Common.{◌≡◌, ℕ, ◌+◌, ◌*◌, ◌<◌, ◌≤◌, Bool, true, false, List, [], ◌∷◌}
use Rattle.std.proofs.Common.{◌++◌, length, Option, Some, None, Result, Ok, refl, sym, ap, ◌∙◌}
use Rattle.std.proofs.Common.{append_assoc, arith}
use Rattle.texts.specs.Lines.{lines_of}
use Rattle.texts.specs.Parts.{with_skips, part_from}
use Rattle.texts.specs.Limits.{room_of, behind_lines, longest_input}
use Rattle.texts.proofs.LineByLine.{behind_both}
use Rattle.texts.proofs.Parts.{counts_all}
use Rattle.sync_types.specs.declared.answers.Rule.TheVariants as rule
use Rattle.sync_types.specs.States.{State}
use Rattle.state_codec.specs.Shapes.{Shape, IsShape, shape_nodes, fields_at, bits_in}
use Rattle.state_codec.specs.Ranges.{InRange}
use Rattle.state_codec.proofs.Lows.{fields_limited}
use Rattle.node_words.specs.declared.header_lines.NodeHeader.{NodeHeader}
use Rattle.node_words.specs.declared.headers.HeaderRefusal.{HeaderRefusal}
use Rattle.node_words.specs.NodePart.{header_step, nothing_read}
use Rattle.node_words.specs.HeaderParts.{PlanPart, HeaderOf, behind_node, behind_plan, header_in}
use Rattle.node_words.specs.WrittenHeaders.{PlanText, node_part_in, text_of_header, stated_header}
use Rattle.node_words.specs.WrittenHeaders.{AreReadBack}
use Rattle.node_words.proofs.BehindLines.{behind_all}
use Rattle.node_words.proofs.NodeParts.{IsWritable, behind_part, part_is_read}
use Rattle.node_words.proofs.Rooms.{HasRoom, is_within}
use Rattle.node_words.proofs.StateDigits.{digits_plain, digits_few}

-- What is asked of plans and their texts: each is read as its plan, ends with a newline and has few
-- lines; and the states of a plan have few registers, and each some bits.
pub record PlansReadBack {Reader Plan Premise : Type 0} (plans : PlanPart Reader Plan Premise)
    (writing : PlanText Plan) (Accepted : Plan → Type 0) : Type 0 where
  pub count : Plan → ℕ
  pub lines : (plan : Plan) → count plan + 4 ≡ writing.lines plan
  pub few : (plan : Plan) → Accepted plan → count plan ≤ 200
  pub read : (plan : Plan) → Accepted plan → (rest : List ℕ)
      → part_from (with_skips plans.step plans.form) plans.form plans.unread 0 1
      (lines_of (writing.text plan ++ rest))
      ≡ Ok (record { value = plan; taken = count plan; behind = lines_of rest })
  pub front : Plan → List ℕ
  pub ends : (plan : Plan) (rest : List ℕ) → writing.text plan ++ rest ≡ front plan ++ 10 ∷ rest
  pub shape : (plan : Plan) → Accepted plan → IsShape (plans.shape plan)
  pub nodes : (plan : Plan) → Accepted plan → shape_nodes (plans.shape plan) ≤ 256
  pub depth : (plan : Plan) → Accepted plan → (plans.shape plan).depth ≤ 340
  pub bits : (plan : Plan) → Accepted plan → (v : ℕ) → v < shape_nodes (plans.shape plan)
      → 0 < bits_in (fields_at (plans.shape plan) v)

-- a room of the limit shows the lines of a header
room : (longer : Bool) (lines : ℕ) → lines ≤ 200
    → HasRoom lines (4097 * 4) (room_of longer longest_input)
room true lines few = omega arith
room false lines few = tt

-- what is left shows as many lines more
roomy : (left : Option ℕ) → HasRoom 0 (4097 * 4) left → HasRoom 4 0 left
roomy None has = tt
roomy (Some n) has = omega arith

module _ {Reader Plan Premise : Type 0} (plans : PlanPart Reader Plan Premise)
    (writing : PlanText Plan) {Accepted : Plan → Type 0}
    (law : PlansReadBack plans writing Accepted) (plan : Plan) (accepted : Accepted plan) where
  abbrev first : List ℕ
  first = writing.text plan

  abbrev n : ℕ
  n = law.count plan

  plan_lines : length (lines_of (law.front plan ++ 10 ∷ [])) ≡ n
  plan_lines =
      let read =
      ap (λ (text : List ℕ).
      part_from (with_skips plans.step plans.form) plans.form plans.unread 0 1 (lines_of text))
      (sym (law.ends plan [])) ∙ law.read plan accepted [] in
      omega (
        arith,
        counts_all (with_skips plans.step plans.form) plans.form
            (lines_of (law.front plan ++ 10 ∷ [])) plans.unread 0 1
            (record { value = plan; taken = n; behind = [] }) read,
      )

  behind_first : (rest : List ℕ) → behind_lines n (first ++ rest) ≡ rest
  behind_first rest =
      ap (behind_lines n) (law.ends plan rest) ∙ behind_all (law.front plan) rest n plan_lines

  module _ (v : ℕ) (lt : v < shape_nodes (plans.shape plan)) (s : State)
      (is : InRange (fields_at (plans.shape plan) v) s) where
    abbrev shape : Shape
    shape = plans.shape plan

    abbrev second : List ℕ
    second = node_part_in shape v s

    abbrev node : NodeHeader
    node = record { id = v; state = s }

    writable : IsWritable shape v s
    writable = record {
      node = lt;
      nodes = law.nodes plan accepted;
      limited = fields_limited shape v (law.shape plan accepted);
      range = is;
      plain = digits_plain shape v s (law.bits plan accepted v lt);
      few = digits_few shape v s (law.shape plan accepted) (law.depth plan accepted);
    }

    text_parts : (rest : List ℕ)
        → text_of_header plans writing plan v s ++ rest ≡ first ++ (second ++ rest)
    text_parts rest = append_assoc first second rest

    behind_is : (rest : List ℕ)
        → behind_lines (writing.lines plan) (text_of_header plans writing plan v s ++ rest) ≡ rest
    behind_is rest =
        ap (behind_lines (writing.lines plan)) (text_parts rest)
        ∙ ap (λ k. behind_lines k (first ++ (second ++ rest))) (sym (law.lines plan))
        ∙ behind_both n 4 (first ++ (second ++ rest))
        ∙ ap (behind_lines 4) (behind_first (second ++ rest))
        ∙ behind_part shape v s writable rest

    is_read : (longer : Bool) (rest : List ℕ)
        → header_in plans (room_of longer longest_input)
        (lines_of (text_of_header plans writing plan v s ++ rest))
        ≡ Ok (stated_header plans writing plan v s)
    is_read longer rest =
        let behind = second ++ rest in
        let number = 1 + n in
        let a =
        is_within (with_skips plans.step plans.form) plans.form (lines_of (first ++ behind))
        plans.unread 0 1 (record { value = plan; taken = n; behind = lines_of behind })
        (law.read plan accepted behind) n (4097 * 4) (room_of longer longest_input) (omega arith)
        (room longer n (law.few plan accepted)) in
        let b =
        is_within (with_skips header_step rule.Form) rule.Form (lines_of behind)
        (nothing_read shape) 0 number (record { value = node; taken = 4; behind = lines_of rest })
        (part_is_read shape v s writable number rest) 4 0 a.left refl (roomy a.left a.has) in
        ap (λ text. header_in plans (room_of longer longest_input) (lines_of text))
        (text_parts rest)
        ∙ ap (behind_plan plans) a.is ∙ ap (behind_node plan n) b.is
        ∙ ap (λ k. let h : HeaderOf Plan = record { plan = plan; node = node; lines = k } in
        let r : Result (HeaderOf Plan) (Option (HeaderRefusal Premise)) = Ok h in r)
        (law.lines plan)

pub are_read_back : {Reader Plan Premise : Type 0} (plans : PlanPart Reader Plan Premise)
    (writing : PlanText Plan) (Accepted : Plan → Type 0)
    → PlansReadBack plans writing Accepted → AreReadBack plans writing Accepted
are_read_back plans writing Accepted law plan accepted v lt s is longer rest = (
  is_read plans writing law plan accepted v lt s is longer rest,
  behind_is plans writing law plan accepted v lt s is rest,
)
