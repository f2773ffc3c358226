-- The plan part of an input: `plan 1` or `plan 2`, `base C`, a line for each level from the lowest
-- up, `level K F C` in version 1 and `level K F C spare S` in version 2, `end`.
use Rattle.std.specs.Prelude.{ℕ, ◌+◌, ◌==◌, ◌&&◌, List, [], ◌∷◌, drop, Option, Some, None, Result}
use Rattle.std.specs.Prelude.{Ok, Err, if◌then◌else◌, codes}
use Rattle.std.specs.Str.{bytes_eq}
use Rattle.texts.specs.Lines.{lines_of, words_of}
use Rattle.texts.specs.Shapes.{numbers_of, numbers_after}
use Rattle.texts.specs.Parts.{Next, goes, ends, refuses, with_skips, Found, At, part_from}
use Rattle.sync_types.specs.declared.answers.Premise.{Premise}
use Rattle.sync_types.specs.declared.answers.Premise.TheVariants.{Form}
use Rattle.construction.specs.Plans.{Plan}
use Rattle.plan_numbers.specs.Numbers.{line, with_level, numbers_below}
use Rattle.plan_numbers.specs.Premises.{base_premise, first_premise, unless}
use Rattle.plan_reader.specs.declared.stages.PlanStage.{PlanStage}
use Rattle.plan_reader.specs.declared.stages.PlanStage.TheVariants.{Unread, Begun, Built}
use Rattle.plan_reader.specs.Skipped.{first_unskipped}

-- the plan of a base line with these numbers, or the first premise that it fails
abbrev pub base_by : (version : ℕ) → Option (List ℕ) → Result Plan Premise
base_by version (Some (base ∷ [])) =
    unless (base_premise base) (record { version = version; base = base; levels = [] })
base_by version other = Err Form

-- the plan with the level of a line with these numbers, or the first premise that it fails over the
-- levels before it
abbrev pub level_by : Plan → Option (List ℕ) → Result Plan Premise
level_by plan (Some (blocks ∷ faults ∷ modulus ∷ spares ∷ [])) =
    let level = line blocks faults modulus spares in
    unless (first_premise (numbers_below plan) level) (with_level plan level)
level_by plan other = Err Form

-- `base C`
abbrev pub after_base : (version : ℕ) → List ℕ → Result Plan Premise
after_base version line = base_by version (numbers_after (codes "base") 1 (words_of line))

-- no spares after three numbers
abbrev pub without_spares : Option (List ℕ) → Option (List ℕ)
without_spares (Some (k ∷ f ∷ c ∷ [])) = Some (k ∷ f ∷ c ∷ 0 ∷ [])
without_spares other = None

-- `K F C spare S` after `level`
abbrev pub with_spares : List (List ℕ) → Option (List ℕ)
with_spares (level ∷ k ∷ f ∷ c ∷ spare ∷ s ∷ []) =
    if bytes_eq level (codes "level") && bytes_eq spare (codes "spare")
    then numbers_of 4 (k ∷ f ∷ c ∷ s ∷ [])
    else None
with_spares other = None

-- the four numbers of a level line: blocks, faults, modulus and spares
abbrev pub level_quadruple : (version : ℕ) → List (List ℕ) → Option (List ℕ)
level_quadruple version words =
    if version == 1 then without_spares (numbers_after (codes "level") 3 words)
    else with_spares words

abbrev pub after_level : Plan → List ℕ → Result Plan Premise
after_level plan line = level_by plan (level_quadruple plan.version (words_of line))

-- the part goes on with this plan, or the line is refused
abbrev pub goes_with : Result Plan Premise → Next PlanStage Plan Premise
goes_with (Ok plan) = goes (Built plan)
goes_with (Err premise) = refuses premise

-- the version that the first line names
abbrev pub version_of : List ℕ → Option ℕ
version_of line =
    if bytes_eq line (codes "plan 1") then Some 1
    else if bytes_eq line (codes "plan 2") then Some 2
    else None

-- the part begins, or its first line is refused
abbrev pub begins : Option ℕ → Next PlanStage Plan Premise
begins None = refuses Form
begins (Some version) = goes (Begun version)

-- a line after those that were read
abbrev pub plan_step : PlanStage → List ℕ → Next PlanStage Plan Premise
plan_step Unread line = begins (version_of line)
plan_step (Begun version) line = goes_with (after_base version line)
plan_step (Built plan) line =
    if bytes_eq line (codes "end") then ends plan else goes_with (after_level plan line)

-- The plan part at the beginning of an input: its plan, how many lines it has through `end`, and
-- the lines after it; or the first line that fails, with the first premise that it fails.
abbrev pub plan_of : List ℕ → Result (Found Plan) (At Premise)
plan_of input = part_from (with_skips plan_step Form) Form Unread 0 1 (lines_of input)

-- what stands at the beginning of an input that was read as this plan, so many bytes through its
-- `end` line, and so many lines
abbrev pub found_in : List ℕ → Plan × ℕ × ℕ → Found Plan
found_in input (plan, bytes, lines) =
    record { value = plan; taken = lines; behind = lines_of (drop bytes input) }

-- the plan, unless the line with that number follows it
abbrev pub unless_followed : Option ℕ → Plan → Result Plan (At Premise)
unless_followed None plan = Ok plan
unless_followed (Some number) plan = Err (record { line = number; rule = Form })

-- the plan of a part, after which only skipped lines may stand
abbrev pub alone : Result (Found Plan) (At Premise) → Result Plan (At Premise)
alone (Ok found) = unless_followed (first_unskipped (1 + found.taken) found.behind) found.value
alone (Err refusal) = Err refusal

-- the plan of an input that is a plan part, with only skipped lines after it; or the first line
-- that fails
abbrev pub whole_plan_of : List ℕ → Result Plan (At Premise)
whole_plan_of input = alone (plan_of input)
