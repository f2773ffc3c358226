-- A table is read as the plan whose table it is.
use Rattle.std.proofs.Common.{◌≡◌, ℕ, ◌^◌, ◌≤◌, List, [], ◌∷◌, ◌++◌, Option, Some, None, Ok}
use Rattle.std.proofs.Common.{refl, ap, ◌∙◌, subst, append_assoc, arith}
use Rattle.std.specs.Prelude.{codes, decimal}
use Rattle.std.proofs.lemmas.List.{append-nil}
use Rattle.texts.specs.Lines.{lines_of, words_of}
use Rattle.texts.specs.Numbers.{number_of}
use Rattle.texts.proofs.NumberWords.{printed_is_read}
use Rattle.texts.proofs.Printed.{joined, IsPlain, ArePlain, decimal_is_plain, words_joined}
use Rattle.texts.proofs.Printed.{line_joined}
use Rattle.halving_plan.specs.declared.premises.HalvingPremise.{HalvingPremise}
use Rattle.halving_plan.specs.Plans.{HalvingNumbers, first_premise, IsAccepted}
use Rattle.halving_plan.specs.Groups.{whole_of}
use Rattle.halving_texts.proofs.Accepted.{accepted_none, none_accepted}
use Rattle.halving_texts.specs.Tables.{sizes_line, group_lines, node_lines, table_text}
use Rattle.halving_texts.specs.Reading.{differs_at, unless_fails, plan_with, plan_by, stated_by}
use Rattle.halving_texts.specs.Reading.{stated_in, unless_differs, compared}
use Rattle.halving_texts.specs.TableLaws.{TablesAreRead, OnlyTablesAreRead}
use Rattle.halving_texts.proofs.FirstDifference.{differs_none, same_texts}

-- ---- the first two lines as words

abbrev first_line : List ℕ
first_line = joined (codes "table" ∷ codes "halving" ∷ codes "1" ∷ [])

abbrev after_plan : HalvingNumbers → List (List ℕ)
after_plan plan =
    codes "nodes" ∷ decimal plan.nodes ∷ codes "faults" ∷ decimal plan.faults
    ∷ codes "modulus" ∷ decimal plan.modulus ∷ []

abbrev after_lines : HalvingNumbers → List ℕ
after_lines plan =
    sizes_line plan ++ (group_lines (whole_of plan) ++ (node_lines plan ++ codes "end\n"))

lines_text : (plan : HalvingNumbers) → table_text plan
    ≡ first_line ++ 10 ∷ (joined (codes "plan" ∷ after_plan plan) ++ 10 ∷ after_lines plan)
lines_text plan =
    let s = sizes_line plan in
    let g = group_lines (whole_of plan) in
    let n = node_lines plan in
    simp (append_assoc, append-nil)

first_plain : ArePlain (codes "table" ∷ codes "halving" ∷ codes "1" ∷ [])
first_plain = (
  record { some = omega arith; above = refl },
  (
    record { some = omega arith; above = refl },
    (record { some = omega arith; above = refl }, tt),
  ),
)

small_plain : (n : ℕ) → n ≤ 2 ^ 40 → IsPlain (decimal n)
small_plain n le = decimal_is_plain n (omega arith)

-- numbers that are small enough for a plan
record AreSmall (plan : HalvingNumbers) : Type 0 where
  nodes : plan.nodes ≤ 2 ^ 40
  faults : plan.faults ≤ 2 ^ 40
  modulus : plan.modulus ≤ 2 ^ 40

are_small : (plan : HalvingNumbers) → IsAccepted plan → AreSmall plan
are_small plan accepted =
    let most = accepted.most_nodes in
    let quorum = accepted.quorum in
    record {
      nodes = omega (arith, most);
      faults = omega (arith, most, quorum);
      modulus = accepted.most_modulus;
    }

module _ (plan : HalvingNumbers) (small : AreSmall plan) where
  plan_plain : ArePlain (codes "plan" ∷ after_plan plan)
  plan_plain = (
    record { some = omega arith; above = refl },
    (
      record { some = omega arith; above = refl },
      (
        small_plain plan.nodes small.nodes,
        (
          record { some = omega arith; above = refl },
          (
            small_plain plan.faults small.faults,
            (
              record { some = omega arith; above = refl },
              (small_plain plan.modulus small.modulus, tt),
            ),
          ),
        ),
      ),
    ),
  )

  -- the plan is stated by its line
  stated : stated_by (words_of (joined (codes "plan" ∷ after_plan plan)))
      ≡ plan_with plan.nodes plan.faults plan.modulus
  stated =
      ap stated_by (words_joined (codes "plan") (after_plan plan) plan_plain)
      ∙ rw (
        printed_is_read plan.nodes (omega (arith, small.nodes)),
        printed_is_read plan.faults (omega (arith, small.faults)),
        printed_is_read plan.modulus (omega (arith, small.modulus)),
      ) refl

  table_lines : lines_of (table_text plan)
      ≡ first_line ∷ joined (codes "plan" ∷ after_plan plan) ∷ lines_of (after_lines plan)
  table_lines =
      let second = joined (codes "plan" ∷ after_plan plan) in
      ap lines_of (lines_text plan)
      ∙ line_joined (codes "table" ∷ codes "halving" ∷ codes "1" ∷ [])
      (second ++ 10 ∷ after_lines plan) first_plain
      ∙ ap (λ (ls : List (List ℕ)). first_line ∷ ls)
      (line_joined (codes "plan" ∷ after_plan plan) (after_lines plan) plan_plain)

-- ---- both ways

pub tables_are_read : TablesAreRead
tables_are_read plan accepted =
    let small = are_small plan accepted in
    let text = table_text plan in
    ap (λ (ls : List (List ℕ)). compared text (stated_in ls)) (table_lines plan small)
    ∙ ap (compared text) (stated plan small)
    ∙ ap (λ (p : Option HalvingPremise). compared text (unless_fails p plan))
    (accepted_none plan accepted)
    ∙ ap (λ (line : Option ℕ). unless_differs line plan) (differs_none 1 text)

-- what is stated is accepted
accepted_by : (plan found : HalvingNumbers) (premise : Option HalvingPremise)
    → (premise ≡ None → IsAccepted plan) → unless_fails premise plan ≡ Some found
    → IsAccepted found
accepted_by plan found None accepted is =
    let same : plan ≡ found = cc in subst IsAccepted same (accepted refl)
accepted_by plan found (Some premise) accepted is = absurd cc

by_numbers : (n f c : Option ℕ) (found : HalvingNumbers) → plan_by n f c ≡ Some found
    → IsAccepted found
by_numbers None f c found is = absurd cc
by_numbers (Some n) None c found is = absurd cc
by_numbers (Some n) (Some f) None found is = absurd cc
by_numbers (Some n) (Some f) (Some c) found is =
    let plan : HalvingNumbers = record { nodes = n; faults = f; modulus = c } in
    accepted_by plan found (first_premise plan) (none_accepted plan) is

by_words : (words : List (List ℕ)) (found : HalvingNumbers) → stated_by words ≡ Some found
    → IsAccepted found
by_words [] found is = absurd cc
by_words (a ∷ []) found is = absurd cc
by_words (a ∷ b ∷ []) found is = absurd cc
by_words (a ∷ b ∷ n ∷ []) found is = absurd cc
by_words (a ∷ b ∷ n ∷ d ∷ []) found is = absurd cc
by_words (a ∷ b ∷ n ∷ d ∷ f ∷ []) found is = absurd cc
by_words (a ∷ b ∷ n ∷ d ∷ f ∷ e ∷ []) found is = absurd cc
by_words (a ∷ b ∷ n ∷ d ∷ f ∷ e ∷ c ∷ words) found is =
    by_numbers (number_of n) (number_of f) (number_of c) found is

by_lines : (lines : List (List ℕ)) (found : HalvingNumbers) → stated_in lines ≡ Some found
    → IsAccepted found
by_lines [] found is = absurd cc
by_lines (first ∷ []) found is = absurd cc
by_lines (first ∷ second ∷ lines) found is = by_words (words_of second) found is

only_by : (text : List ℕ) (plan found : HalvingNumbers) (line : Option ℕ)
    → differs_at 1 text (table_text found) ≡ line → unless_differs line found ≡ Ok plan
    → IsAccepted found → IsAccepted plan × (text ≡ table_text plan)
only_by text plan found None none is accepted =
    let same : found ≡ plan = cc in (
      subst IsAccepted same accepted,
      same_texts 1 text (table_text found) none ∙ ap table_text same,
    )
only_by text plan found (Some line) none is accepted = absurd cc

only_stated : (text : List ℕ) (plan : HalvingNumbers) (stated : Option HalvingNumbers)
    → ((found : HalvingNumbers) → stated ≡ Some found → IsAccepted found)
    → compared text stated ≡ Ok plan → IsAccepted plan × (text ≡ table_text plan)
only_stated text plan None accepted is = absurd cc
only_stated text plan (Some found) accepted is =
    only_by text plan found (differs_at 1 text (table_text found)) refl is (accepted found refl)

pub only_tables_are_read : OnlyTablesAreRead
only_tables_are_read text plan is =
    only_stated text plan (stated_in (lines_of text)) (by_lines (lines_of text)) is
