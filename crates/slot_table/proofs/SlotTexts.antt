-- The text of a slot table is read as this table.
use Rattle.std.proofs.Common.{◌≡◌, ℕ, ◌+◌, ◌^◌, ◌<◌, ◌≤◌, inl, inr, Bool, true, false, List, []}
use Rattle.std.proofs.Common.{◌∷◌, ◌++◌, length, map, get_or, Option, Some, Result, Ok, refl, ap}
use Rattle.std.proofs.Common.{subst, ◌∙◌, arith}
use Rattle.std.specs.Prelude.{codes, decimal, ◌&&◌, nat_le}
use Rattle.std.specs.List.{list_any}
use Rattle.std.proofs.lemmas.Bool.{and_parts, leb-true, le-leb, lt-leb, le-ltb, cases_lt}
use Rattle.std.proofs.lemmas.List.{length-append, get_or_append_left, get_or-append-add}
use Rattle.std.proofs.lemmas.List.Folds.{list_any_none}
use Rattle.std.proofs.lemmas.List.Elements.{All-get_or, All-from_get_or}
use Rattle.texts.specs.Words.{text_of}
use Rattle.texts.specs.Lines.{lines_of}
use Rattle.texts.specs.Parts.{goes, goes_on, with_skips, Found, At, part_from}
use Rattle.texts.proofs.ItemLines.{one_plain, text_more, items_read}
use Rattle.texts.proofs.NumberLines.{AreShort, numbers_short, line_plain, numbers_back}
use Rattle.texts.proofs.Printed.{IsPlain, spaced_length, counts, goes_behind}
use Rattle.sync_types.specs.declared.answers.Rule.{Rule}
use Rattle.sync_types.specs.declared.answers.Rule.TheVariants.{Form}
use Rattle.construction.specs.Plans.{plan_nodes, plan_modulus}
use Rattle.plan_laws.proofs.PlanCounter.{plan_sizes}
use Rattle.slot_table.specs.declared.lines.SlotLine.{SlotLine}
use Rattle.slot_table.specs.Tables.{covers, meets}
use Rattle.slot_table.specs.SlotPart.{SlotsSoFar, no_lines, line_tested, with_line, slots_step}
use Rattle.slot_table.specs.SlotPart.{IsLineFor, IsTable}
use Rattle.slot_table.specs.SlotTexts.{slot_text, TableTextIsRead, SlotTextIsRead}

slots_plain : IsPlain (codes "slots")
slots_plain = record { some = omega arith; above = refl }

slot_plain : IsPlain (codes "slot")
slot_plain = record { some = omega arith; above = refl }

-- two lines that meet have an output in both
both_cover : (output a b : ℕ) (line : SlotLine) → a ≤ output → output ≤ b → line.first ≤ output
    → output ≤ line.last
    → (covers output line ≡ true) × ((nat_le a output && nat_le output b) ≡ true)
both_cover output a b line from to start end = (
  ap (λ (x : Bool). x && nat_le output line.last) (le-leb line.first output start)
      ∙ le-leb output line.last end,
  ap (λ (x : Bool). x && nat_le output b) (le-leb a output from) ∙ le-leb output b to,
)

-- how the part is read on
abbrev read_on : SlotsSoFar → (taken number : ℕ) → List ℕ → Result (Found (List SlotLine)) (At Rule)
read_on s taken number text =
    part_from (with_skips slots_step Form) Form s taken number (lines_of text)

module _ (nodes modulus : ℕ) (few : nodes ≤ 2 ^ 40) (low : modulus ≤ 2 ^ 40) where
  -- a part of which these lines were read
  abbrev with_lines : List SlotLine → SlotsSoFar
  with_lines lines = record {
    nodes = nodes;
    modulus = modulus;
    begun = true;
    lines = lines;
  }

  module _ (done more : List SlotLine) (line : SlotLine)
      (are : IsTable nodes modulus (done ++ line ∷ more)) where
    abbrev all : List SlotLine
    all = done ++ line ∷ more

    long : length all ≡ length done + (length more + 1)
    long = length-append done (line ∷ more) ∙ omega arith

    -- the line at its place among all
    at_place : (d : SlotLine) → get_or all (length done) d ≡ line
    at_place d =
        let zero_more : length done ≡ length done + 0 = omega arith in
        ap (λ i. get_or all i d) zero_more ∙ get_or-append-add done (line ∷ more) 0 d

    is_for : IsLineFor nodes modulus line
    is_for = subst (IsLineFor nodes modulus) (at_place line)
        (All-get_or (IsLineFor nodes modulus) all (length done) line
        (omega (arith, long)) are.each)

    -- the numbers of its line
    abbrev numbers : List ℕ
    numbers = line.node ∷ line.first ∷ line.last ∷ []

    short : AreShort numbers
    short =
        let node = is_for.node in
        let order = is_for.order in
        let output = is_for.output in (
          omega (arith, few, node),
          (omega (arith, low, order, output), (omega (arith, low, output), tt)),
        )

    room : spaced_length (codes "slot" ∷ map decimal numbers) ≤ 4096
    room = omega (arith, numbers_short numbers short)

    -- an earlier line and this one have no output in common
    never_both : (i output : ℕ) → i < length done → covers output (get_or done i line) ≡ true
        → covers output line ≡ true → ⊥
    never_both i output lt here there =
        let old : get_or all i line ≡ get_or done i line =
        get_or_append_left done (line ∷ more) line i lt in
        let same = are.apart i (length done) output line (omega (arith, lt, long))
        (omega (arith, long)) (ap (covers output) old ∙ here)
        (ap (covers output) (at_place line) ∙ there) in
        omega (arith, same, lt)

    module _ (i : ℕ) (lt : i < length done) where
      abbrev old : SlotLine
      old = get_or done i line

      old_for : IsLineFor nodes modulus old
      old_for = subst (IsLineFor nodes modulus)
          (get_or_append_left done (line ∷ more) line i lt)
          (All-get_or (IsLineFor nodes modulus) all i line
          (omega (arith, lt, long)) are.each)

      meet_at : (output : ℕ) → line.first ≤ output → output ≤ line.last → old.first ≤ output
          → output ≤ old.last → ⊥
      meet_at output from to start end =
          let both = both_cover output line.first line.last old from to start end in
          never_both i output lt both.0 both.1

      apart_by : (b : Bool) → meets line.first line.last old ≡ b → b ≡ false
      apart_by false is = refl
      apart_by true is =
          let parts = and_parts (nat_le old.first line.last) (nat_le line.first old.last) is in
          let start = leb-true old.first line.last parts.0 in
          let end = leb-true line.first old.last parts.1 in
          let order = is_for.order in
          let old_order = old_for.order in
          elim (cases_lt line.first old.first) [
            | inl lt ↦ absurd (meet_at old.first (omega arith) start (omega arith) old_order)
            | inr le ↦ absurd (meet_at line.first (omega arith) order le end)
          ]

      no_meeting : meets line.first line.last (get_or done i line) ≡ false
      no_meeting = apart_by (meets line.first line.last old) refl

    none_meets : list_any (meets line.first line.last) done ≡ false
    none_meets = list_any_none (meets line.first line.last) done
        (All-from_get_or (λ old. meets line.first line.last old ≡ false) done line no_meeting)

    tested : line_tested (with_lines done) (Some (line.node ∷ line.first ∷ line.last ∷ []))
        ≡ Ok line
    tested =
        let many = are.many in rw (
          lt-leb 256 (length done) (omega (arith, many, long)),
          lt-leb nodes line.node is_for.node,
          le-ltb line.last line.first is_for.order,
          lt-leb modulus line.last is_for.output,
          none_meets,
        ) refl

    steps : slots_step (with_lines done) (slot_text line)
        ≡ goes (with_lines (done ++ line ∷ []))
    steps =
        ap (λ (ns : Option (List ℕ)). goes_on (with_line (with_lines done))
        (line_tested (with_lines done) ns)) (numbers_back (codes "slot") slot_plain numbers short)
        ∙ ap (goes_on (with_line (with_lines done))) tested

    line_read : (taken number : ℕ) (rest : List ℕ)
        → read_on (with_lines done) taken number (slot_text line ++ 10 ∷ rest)
        ≡ read_on (with_lines (done ++ line ∷ [])) (taken + 1) (number + 1) rest
    line_read taken number rest =
        goes_behind slots_step Form (codes "slot") (map decimal numbers) rest
        (line_plain (codes "slot") slot_plain numbers short) room
        (counts (slot_text line) (omega arith) refl) (with_lines done) taken number
        (with_lines (done ++ line ∷ [])) steps

  lines_read : (lines : List SlotLine) (number : ℕ) (rest : List ℕ) → IsTable nodes modulus lines
      → read_on (with_lines []) 1 number
      (text_of (map slot_text lines ++ codes "end" ∷ []) ++ rest)
      ≡ Ok (record {
        value = lines;
        taken = 1 + (length lines + 1);
        behind = lines_of rest;
      })
  lines_read lines number rest are =
      items_read slots_step Form with_lines (λ lines. lines) (λ n. slot_text)
      (λ n lines. map slot_text lines) (λ n. refl) (λ n line more. refl) (IsTable nodes modulus)
      (λ done more line are. line_read done more line are) (λ lines are. refl) [] lines 1 number
      rest are

pub table_text_is_read : TableTextIsRead
table_text_is_read nodes modulus few low lines are number rest =
    let behind = map slot_text lines ++ codes "end" ∷ [] in
    let count : 1 + (length lines + 1) ≡ length lines + 2 = omega arith in
    ap (read_on (no_lines nodes modulus) 0 number) (text_more (codes "slots 1") behind rest)
    ∙ goes_behind slots_step Form (codes "slots") (codes "1" ∷ []) (text_of behind ++ rest)
    (slots_plain, (one_plain, tt)) (omega arith) refl (no_lines nodes modulus) 0 number
    (with_lines nodes modulus few low []) refl
    ∙ lines_read nodes modulus few low lines (number + 1) rest are
    ∙ rw count refl

pub slot_text_is_read : SlotTextIsRead
slot_text_is_read plan accepted lines are number rest =
    let few = (plan_sizes plan accepted).most in
    let low = (plan_sizes plan accepted).modulus in
    table_text_is_read (plan_nodes plan) (plan_modulus plan) (omega (arith, few))
    (omega (arith, low)) lines are number rest
