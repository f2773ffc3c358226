-- The halving part of an input: `halving 1`, `group N F C`, `end`.
use Rattle.std.specs.Prelude.{ℕ, ◌+◌, List, [], ◌∷◌, drop, Option, Some, None, Result}
use Rattle.std.specs.Prelude.{Ok, Err, if◌then◌else◌, codes}
use Rattle.std.specs.Str.{bytes_eq}
use Rattle.texts.specs.Lines.{lines_of, words_of}
use Rattle.texts.specs.Shapes.{numbers_after}
use Rattle.texts.specs.Parts.{Next, goes, ends, refuses, with_skips, Found, At, part_from}
use Rattle.plan_reader.specs.Skipped.{first_unskipped}
use Rattle.halving_plan.specs.Plans.{HalvingNumbers, first_premise}
use Rattle.halving_plan.specs.declared.premises.HalvingPremise.{HalvingPremise}
use Rattle.halving_texts.specs.declared.premises.LinePremise.{LinePremise}
use Rattle.halving_texts.specs.declared.premises.LinePremise.TheVariants.{Form, Plan}
use Rattle.halving_texts.specs.declared.stages.HalvingStage.{HalvingStage}
use Rattle.halving_texts.specs.declared.stages.HalvingStage.TheVariants.{Unread, Begun, Stated}

-- the plan, unless it fails a premise
abbrev pub unless_fails : Option HalvingPremise → HalvingNumbers → Result HalvingNumbers LinePremise
unless_fails None plan = Ok plan
unless_fails (Some premise) plan = Err (Plan premise)

-- the plan of a line with these numbers, or the first premise that it fails
abbrev pub plan_by : Option (List ℕ) → Result HalvingNumbers LinePremise
plan_by (Some (n ∷ f ∷ c ∷ [])) =
    let plan : HalvingNumbers = record { nodes = n; faults = f; modulus = c } in
    unless_fails (first_premise plan) plan
plan_by other = Err Form

-- `group N F C`
abbrev pub plan_in : List ℕ → Result HalvingNumbers LinePremise
plan_in line = plan_by (numbers_after (codes "group") 3 (words_of line))

-- the part goes on with this plan, or the line is refused
abbrev pub goes_with : Result HalvingNumbers LinePremise → Next HalvingStage HalvingNumbers LinePremise
goes_with (Ok plan) = goes (Stated plan)
goes_with (Err premise) = refuses premise

-- a line after those that were read
abbrev pub halving_step : HalvingStage → List ℕ → Next HalvingStage HalvingNumbers LinePremise
halving_step Unread line = if bytes_eq line (codes "halving 1") then goes Begun else refuses Form
halving_step Begun line = goes_with (plan_in line)
halving_step (Stated plan) line = if bytes_eq line (codes "end") then ends plan else refuses Form

-- The halving part at the beginning of an input: its plan, how many lines it has through `end`, and
-- the lines after it; or the first line that fails, with the first premise that it fails.
abbrev pub halving_of : List ℕ → Result (Found HalvingNumbers) (At LinePremise)
halving_of input = part_from (with_skips halving_step Form) Form Unread 0 1 (lines_of input)

-- what stands at the beginning of an input that was read as this plan, so many bytes through its
-- `end` line, and so many lines
abbrev pub found_in : List ℕ → HalvingNumbers × ℕ × ℕ → Found HalvingNumbers
found_in input (plan, bytes, lines) =
    record { value = plan; taken = lines; behind = lines_of (drop bytes input) }

-- the plan, unless the line with that number follows it
abbrev pub unless_followed : Option ℕ → HalvingNumbers → Result HalvingNumbers (At LinePremise)
unless_followed None plan = Ok plan
unless_followed (Some number) plan = Err (record { line = number; rule = Form })

-- the plan of a part, after which only skipped lines may stand
abbrev pub alone : Result (Found HalvingNumbers) (At LinePremise)
    → Result HalvingNumbers (At LinePremise)
alone (Ok found) = unless_followed (first_unskipped (1 + found.taken) found.behind) found.value
alone (Err refusal) = Err refusal

-- the plan of an input that is a halving part, with skipped lines alone after it; or the first line
-- that fails
abbrev pub whole_halving_of : List ℕ → Result HalvingNumbers (At LinePremise)
whole_halving_of input = alone (halving_of input)
