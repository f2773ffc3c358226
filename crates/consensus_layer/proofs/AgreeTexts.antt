-- The text of an agree part is read as what it says.
use Rattle.std.proofs.Common.{◌≡◌, ℕ, ◌+◌, ◌*◌, ◌%◌, ◌<◌, ◌≤◌, Bool, false, List, [], ◌∷◌, ◌++◌}
use Rattle.std.proofs.Common.{length, map, All, Option, Some, Result, Ok, Err, refl, ap, ◌∙◌, arith}
use Rattle.std.specs.Prelude.{codes, decimal, ◌==◌, if◌then◌else◌}
use Rattle.std.proofs.lemmas.Bool.{eq-eqb}
use Rattle.std.proofs.lemmas.List.Elements.{All-head, All-tail, All-weaker}
use Rattle.std.proofs.lemmas.Fmt.{length-decimal-le}
use Rattle.texts.specs.Lines.{lines_of}
use Rattle.texts.specs.Parts.{goes, goes_on, is_skipped, with_skips, Found, At, part_from}
use Rattle.texts.proofs.ItemLines.{one_plain, end_plain, text_more}
use Rattle.texts.proofs.NumberLines.{AreShort, are_short, numbers_short, line_plain}
use Rattle.texts.proofs.NumberLines.{all_numbers_back}
use Rattle.texts.proofs.Printed.{joined, IsPlain, spaced_length, counts, goes_behind, ends_there}
use Rattle.sync_types.specs.declared.answers.Rule.{Rule}
use Rattle.sync_types.specs.declared.answers.Rule.TheVariants.{Form, Slot}
use Rattle.layer_laws.specs.Numbers.{Numbers, AreNumbers, numbers_of as numbers_of_plan}
use Rattle.layer_laws.specs.CounterSlots.{slot_length}
use Rattle.layer_laws.proofs.PlanCounters.{plan_numbers_are}
use Rattle.consensus_layer.specs.declared.agree_lines.AgreeStage.{AgreeStage}
use Rattle.consensus_layer.specs.declared.agree_lines.AgreeStage.TheVariants.{Begun, Valued, Given}
use Rattle.consensus_layer.specs.AgreeContent.{AgreeContent}
use Rattle.consensus_layer.specs.AgreePart.{AgreeSoFar, nothing_read_over, inputs_tested}
use Rattle.consensus_layer.specs.AgreePart.{at_stage, with_inputs, agree_step, IsForNumbers}
use Rattle.consensus_layer.specs.AgreeTexts.{values_line, inputs_line, agree_text, AgreeTextIsRead}
use Rattle.consensus_layer.specs.AgreeTexts.{AgreeTextIsReadOver}
use Rattle.consensus_layer.proofs.PartLines.{within_back, below_pass, below_short}

-- numbers up to 65536 are printed in 5 digits at most
few_digit : (n : ℕ) → n ≤ 65536 → length (decimal n) ≤ 5
few_digit n le = length-decimal-le 5 n (omega arith) (omega arith) (omega arith)

few_digits : (ns : List ℕ) → All (λ n. n ≤ 65536) ns
    → spaced_length (map decimal ns) ≤ 6 * length ns
few_digits [] small = omega arith
few_digits (n ∷ ns) small = omega (
  arith,
  few_digit n (All-head (λ n. n ≤ 65536) n ns small),
  few_digits ns (All-tail (λ n. n ≤ 65536) n ns small),
)

agree_plain : IsPlain (codes "agree")
agree_plain = record { some = omega arith; above = refl }

pub values_plain : IsPlain (codes "values")
values_plain = record { some = omega arith; above = refl }

inputs_plain : IsPlain (codes "inputs")
inputs_plain = record { some = omega arith; above = refl }

-- a line of inputs counts
inputs_count : (words : List (List ℕ)) → is_skipped (joined (codes "inputs" ∷ words)) ≡ false
inputs_count [] = refl
inputs_count (word ∷ words) =
    counts (joined (codes "inputs" ∷ word ∷ words)) (omega arith) refl

-- how the part is read on
abbrev read_on : AgreeSoFar → (taken number : ℕ) → List ℕ → Result (Found AgreeContent) (At Rule)
read_on s taken number text =
    part_from (with_skips agree_step Form) Form s taken number (lines_of text)

module _ (numbers : Numbers) (are : AreNumbers numbers) (said : AgreeContent)
    (for : IsForNumbers numbers said) where
  abbrev whole : Bool
  whole = numbers.modulus % slot_length numbers.faults == 0

  -- a part that was read so far
  abbrev so_far : AgreeStage → List ℕ → AgreeSoFar
  so_far stage inputs = record {
    nodes = numbers.nodes;
    whole = whole;
    stage = stage;
    inputs = inputs;
  }

  small : All (λ n. n ≤ 65536) said.inputs
  small =
      let few = for.few in
      All-weaker (λ n. n < said.values) (λ n. n ≤ 65536) (λ n lt. omega (arith, few, lt))
      said.inputs for.range

  -- ---- the values

  values_short : AreShort (said.values ∷ [])
  values_short = let few = for.few in (omega (arith, few), tt)

  values_step : agree_step (so_far Begun []) (values_line said)
      ≡ goes (so_far (Valued said.values) [])
  values_step =
      ap (goes_on (λ values. at_stage (so_far Begun []) (Valued values)))
      (within_back (codes "values") values_plain 2 65536 said.values values_short.0
      (for.two, for.few))

  -- ---- the inputs

  inputs_short : AreShort said.inputs
  inputs_short =
      let few = for.few in
      are_short said.inputs (below_short said.values (omega (arith, few)) said.inputs for.range)

  inputs_room : spaced_length (codes "inputs" ∷ map decimal said.inputs) ≤ 4096
  inputs_room =
      let few = are.few in
      let nodes = for.nodes in
      omega (arith, few, nodes, few_digits said.inputs small)

  tested : inputs_tested said.values numbers.nodes (Some said.inputs) ≡ Ok said.inputs
  tested = rw (
    eq-eqb (length said.inputs) numbers.nodes for.nodes,
    below_pass said.values said.inputs for.range,
  ) refl

  inputs_step : agree_step (so_far (Valued said.values) []) (inputs_line said)
      ≡ goes (so_far (Given said.values) said.inputs)
  inputs_step =
      let s = so_far (Valued said.values) [] in
      ap (λ (ns : Option (List ℕ)). goes_on (with_inputs said.values s)
      (inputs_tested said.values numbers.nodes ns))
      (all_numbers_back (codes "inputs") inputs_plain said.inputs inputs_short)
      ∙ ap (goes_on (with_inputs said.values s)) tested

  -- ---- all lines

  head_is : agree_step (nothing_read_over numbers) (codes "agree 1") ≡ goes (so_far Begun [])
  head_is =
      ap (λ (b : Bool). goes_on (λ (x : Unit). so_far Begun []) (if b then Ok tt else Err Slot))
      (eq-eqb (numbers.modulus % slot_length numbers.faults) 0 for.whole)

  abbrev fourth : List ℕ → List ℕ
  fourth rest = codes "end" ++ 10 ∷ rest

  abbrev third : List ℕ → List ℕ
  third rest = inputs_line said ++ 10 ∷ fourth rest

  abbrev second : List ℕ → List ℕ
  second rest = values_line said ++ 10 ∷ third rest

  text_is : (rest : List ℕ) → agree_text said ++ rest ≡ codes "agree 1" ++ 10 ∷ second rest
  text_is rest =
      let last = codes "end" ∷ [] in
      text_more (codes "agree 1") (values_line said ∷ inputs_line said ∷ last) rest
      ∙ ap (λ text. codes "agree 1" ++ 10 ∷ text)
      (text_more (values_line said) (inputs_line said ∷ last) rest
      ∙ ap (λ text. values_line said ++ 10 ∷ text)
      (text_more (inputs_line said) last rest
      ∙ ap (λ text. inputs_line said ++ 10 ∷ text) (text_more (codes "end") [] rest)))

  pub is_read : (number : ℕ) (rest : List ℕ)
      → read_on (nothing_read_over numbers) 0 number (agree_text said ++ rest)
      ≡ Ok (record { value = said; taken = 4; behind = lines_of rest })
  is_read number rest =
      ap (read_on (nothing_read_over numbers) 0 number) (text_is rest)
      ∙ goes_behind agree_step Form (codes "agree") (codes "1" ∷ []) (second rest)
      (agree_plain, (one_plain, tt)) (omega arith) refl (nothing_read_over numbers) 0 number
      (so_far Begun []) head_is
      ∙ goes_behind agree_step Form (codes "values") (decimal said.values ∷ []) (third rest)
      (line_plain (codes "values") values_plain (said.values ∷ []) values_short)
      (omega (arith, numbers_short (said.values ∷ []) values_short))
      (counts (values_line said) (omega arith) refl) (so_far Begun []) 1 (number + 1)
      (so_far (Valued said.values) []) values_step
      ∙ goes_behind agree_step Form (codes "inputs") (map decimal said.inputs) (fourth rest)
      (line_plain (codes "inputs") inputs_plain said.inputs inputs_short) inputs_room
      (inputs_count (map decimal said.inputs))
      (so_far (Valued said.values) []) 2 (number + 1 + 1)
      (so_far (Given said.values) said.inputs) inputs_step
      ∙ ends_there agree_step Form (codes "end") [] rest (end_plain, tt) (omega arith) refl
      (so_far (Given said.values) said.inputs) 3 (number + 1 + 1 + 1) said refl

pub agree_text_is_read_over : AgreeTextIsReadOver
agree_text_is_read_over numbers are said for number rest = is_read numbers are said for number rest

pub agree_text_is_read : AgreeTextIsRead
agree_text_is_read plan accepted said for number rest =
    is_read (numbers_of_plan plan) (plan_numbers_are plan accepted) said for number rest
