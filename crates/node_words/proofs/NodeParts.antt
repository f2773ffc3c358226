-- The text of a node part is read as that node.
use Rattle.std.proofs.Common.{◌≡◌, ℕ, ◌+◌, ◌<◌, ◌≤◌, Bool, true, false, List, [], ◌∷◌, ◌++◌}
use Rattle.std.proofs.Common.{length, Some, None, Result, Ok, Err, refl, ap, ◌∙◌, append_assoc}
use Rattle.std.proofs.Common.{arith}
use Rattle.std.specs.Prelude.{codes, decimal, nat_le, nat_lt, ◌==◌, if◌then◌else◌}
use Rattle.std.specs.List.{list_all}
use Rattle.std.proofs.lemmas.Bool.{and_parts, lt-leb}
use Rattle.std.proofs.lemmas.Bool.Decides.{nat_tests}
use Rattle.std.proofs.lemmas.List.{append-nil}
use Rattle.std.proofs.lemmas.Fmt.{length-decimal-le}
use Rattle.texts.specs.Lines.{lines_of, words_of, is_one_line}
use Rattle.texts.specs.Limits.{behind_lines}
use Rattle.texts.specs.Shapes.{numbers_after}
use Rattle.texts.specs.Parts.{Found, At, with_skips, part_from}
use Rattle.texts.proofs.LineByLine.{behind_line}
use Rattle.texts.proofs.NumberWords.{printed_is_read}
use Rattle.texts.proofs.Printed.{joined, IsPlain, ArePlain, decimal_is_plain, words_joined, counts}
use Rattle.texts.proofs.Printed.{goes_behind, ends_there}
use Rattle.sync_types.specs.declared.answers.Rule.{Rule}
use Rattle.sync_types.specs.declared.answers.Rule.TheVariants as rule
use Rattle.sync_types.specs.States.{State}
use Rattle.state_codec.specs.Shapes.{Shape, IsFields, fields_at, shape_nodes}
use Rattle.state_codec.specs.Ranges.{InRange}
use Rattle.state_codec.specs.Texts.{read_text}
use Rattle.state_codec.proofs.Digits.{text_is_taken, text_reads_back}
use Rattle.node_words.specs.declared.header_lines.NodeHeader.{NodeHeader}
use Rattle.node_words.specs.declared.header_lines.HeaderStage.{HeaderStage}
use Rattle.node_words.specs.declared.header_lines.HeaderStage.TheVariants as stage
use Rattle.node_words.specs.NodePart.{HeaderSoFar, header_step, id_by, id_in, state_word, state_in}
use Rattle.node_words.specs.NodePart.{header_of, header_by, goes_named, goes_stated}
use Rattle.node_words.specs.WrittenHeaders.{digits_in, node_part_in}

-- a word above a space has no newline
no_newline : (word : List ℕ) → list_all (nat_lt 32) word ≡ true → is_one_line word ≡ true
no_newline [] above = refl
no_newline (b ∷ word) above =
    let parts = and_parts (nat_lt 32 b) (list_all (nat_lt 32) word) above in
    let other : (b == 10) ≡ false = grind (arith, nat_tests) in
    rw (other, no_newline word parts.1) refl

-- what is to hold of a state of a node, whose digits are few enough for a line
pub record IsWritable (shape : Shape) (v : ℕ) (s : State) : Type 0 where
  pub node : v < shape_nodes shape
  pub nodes : shape_nodes shape ≤ 256
  pub limited : IsFields (fields_at shape v)
  pub range : InRange (fields_at shape v) s
  pub plain : IsPlain (digits_in shape v s)
  pub few : length (digits_in shape v s) ≤ 4000

module _ (shape : Shape) (v : ℕ) (s : State) (is : IsWritable shape v s) where
  small : v < 256
  small = omega (arith, is.node, is.nodes)

  abbrev line_1 : List ℕ
  line_1 = joined (codes "node" ∷ codes "1" ∷ [])

  abbrev line_2 : List ℕ
  line_2 = joined (codes "id" ∷ decimal v ∷ [])

  abbrev line_3 : List ℕ
  line_3 = joined (codes "state" ∷ digits_in shape v s ∷ [])

  abbrev line_4 : List ℕ
  line_4 = joined (codes "end" ∷ [])

  part_text : (rest : List ℕ) → node_part_in shape v s ++ rest
      ≡ line_1 ++ 10 ∷ (line_2 ++ 10 ∷ (line_3 ++ 10 ∷ (line_4 ++ 10 ∷ rest)))
  part_text rest = simp (append_assoc, append-nil)

  plain_1 : ArePlain (codes "node" ∷ codes "1" ∷ [])
  plain_1 =
      let one : IsPlain (codes "1") = record { some = omega arith; above = refl } in
      (record { some = omega arith; above = refl }, (one, tt))

  plain_2 : ArePlain (codes "id" ∷ decimal v ∷ [])
  plain_2 =
      let number = decimal_is_plain v (omega (arith, small)) in
      (record { some = omega arith; above = refl }, (number, tt))

  plain_3 : ArePlain (codes "state" ∷ digits_in shape v s ∷ [])
  plain_3 = (record { some = omega arith; above = refl }, (is.plain, tt))

  plain_4 : ArePlain (codes "end" ∷ [])
  plain_4 = (record { some = omega arith; above = refl }, tt)

  -- none has a newline, so after four lines is what follows
  pub behind_part : (rest : List ℕ) → behind_lines 4 (node_part_in shape v s ++ rest) ≡ rest
  behind_part rest =
      let last = line_4 ++ 10 ∷ rest in
      let third = line_3 ++ 10 ∷ last in
      let second = line_2 ++ 10 ∷ third in
      ap (behind_lines 4) (part_text rest)
      ∙ behind_line 3 line_1 second refl
      ∙ behind_line 2 line_2 third (no_newline (decimal v) plain_2.1.0.above)
      ∙ behind_line 1 line_3 last (no_newline (digits_in shape v s) plain_3.1.0.above)
      ∙ behind_line 0 line_4 rest refl

  -- ---- the steps

  abbrev at : HeaderStage → HeaderSoFar
  at reached = record { shape = shape; stage = reached }

  abbrev node : NodeHeader
  node = record { id = v; state = s }

  id_read : id_in (shape_nodes shape) line_2 ≡ Ok v
  id_read =
      let numbers : numbers_after (codes "id") 1 (words_of line_2) ≡ Some (v ∷ []) =
      ap (numbers_after (codes "id") 1) (words_joined (codes "id") (decimal v ∷ []) plain_2)
      ∙ rw (printed_is_read v (omega (arith, small))) refl in
      let inside : nat_le (shape_nodes shape) v ≡ false =
      lt-leb (shape_nodes shape) v (omega (arith, is.node)) in
      ap (id_by (shape_nodes shape)) numbers
      ∙ ap (λ (b : Bool). let r : Result ℕ Rule = if b then Err rule.Node else Ok v in r) inside

  state_read : state_in shape v line_3 ≡ Ok node
  state_read =
      let fields = fields_at shape v in
      let word : state_word (words_of line_3) ≡ Some (digits_in shape v s) =
      ap state_word (words_joined (codes "state") (digits_in shape v s ∷ []) plain_3) in
      let back : read_text fields (digits_in shape v s) ≡ s =
      text_reads_back fields s is.limited is.range in
      ap (header_of shape v) word
      ∙ ap (λ (b : Bool).
      header_by v (if b then Some (read_text fields (digits_in shape v s)) else None))
      (text_is_taken fields s)
      ∙ ap (λ (read : State). header_by v (Some read)) back

  abbrev read_on : HeaderStage → (taken number : ℕ) → List ℕ → Result (Found NodeHeader) (At Rule)
  read_on reached taken number text =
      part_from (with_skips header_step rule.Form) rule.Form (at reached) taken number
      (lines_of text)

  -- the part is read at the beginning of any text
  pub part_is_read : (number : ℕ) (rest : List ℕ)
      → read_on stage.Unread 0 number (node_part_in shape v s ++ rest)
      ≡ Ok (record { value = node; taken = 4; behind = lines_of rest })
  part_is_read number rest =
      let short =
      length-decimal-le 15 v (omega arith) (omega (arith, small)) (omega (arith, small)) in
      let behind_3 = line_4 ++ 10 ∷ rest in
      let behind_2 = line_3 ++ 10 ∷ behind_3 in
      let behind_1 = line_2 ++ 10 ∷ behind_2 in
      ap (read_on stage.Unread 0 number) (part_text rest)
      ∙ goes_behind header_step rule.Form (codes "node") (codes "1" ∷ []) behind_1 plain_1
      (omega arith) refl (at stage.Unread) 0 number (at stage.Begun) refl
      ∙ goes_behind header_step rule.Form (codes "id") (decimal v ∷ []) behind_2 plain_2
      (omega (arith, short))
      (counts line_2 (omega arith) refl) (at stage.Begun) 1 (number + 1) (at (stage.Named v))
      (ap (goes_named (at stage.Begun)) id_read)
      ∙ goes_behind header_step rule.Form (codes "state") (digits_in shape v s ∷ []) behind_3
      plain_3 (omega (arith, is.few))
      (counts line_3 (omega arith) refl) (at (stage.Named v)) 2 (number + 1 + 1)
      (at (stage.Stated node)) (ap (goes_stated (at (stage.Named v))) state_read)
      ∙ ends_there header_step rule.Form (codes "end") [] rest plain_4
      (omega arith) refl (at (stage.Stated node)) 3 (number + 1 + 1 + 1) node refl
