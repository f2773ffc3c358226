-- A table text as its reader takes it, line by line, and what each line has to say.
use Rattle.std.specs.Prelude.{ℕ, ◌+◌, List, [], ◌∷◌, ◌++◌, Bool, Option, Some, None, Result, Ok}
use Rattle.std.specs.Prelude.{Err, length, slice_index, nat_eq, ◌==◌, if◌then◌else◌, codes}
use Rattle.std.specs.Int.{div_ceil}
use Rattle.std.specs.Str.{bytes_eq}
use Rattle.std.specs.Cmp.Lexicographic.{pointwise}
use Rattle.texts.specs.Lines.{words_of, whole_lines}
use Rattle.texts.specs.Numbers.{number_of}
use Rattle.texts.specs.Shapes.{onto_numbers, numbers_after}
use Rattle.texts.specs.Parts.{Next, goes, ends, refuses, Found, At, part_from}
use Rattle.texts.specs.Words.{open_rest}
use Rattle.sync_types.specs.declared.answers.Premise as premise
use Rattle.sync_types.specs.declared.answers.Premise.TheVariants.{Form}
use Rattle.sync_types.specs.declared.answers.Cause.{Cause}
use Rattle.sync_types.specs.declared.answers.Cause.TheVariants.{Premise, Value}
use Rattle.construction.specs.Plans.{Level, Plan, plan_nodes, plan_faults, plan_modulus, plan_bound}
use Rattle.construction.specs.Plans.{plan_bits, plan_depth}
use Rattle.plan_numbers.specs.declared.numbers.LevelNums.{LevelNums}
use Rattle.plan_numbers.specs.Numbers.{line, with_level, below_of, numbers_below, numbers_over}
use Rattle.plan_numbers.specs.Premises.{base_premise, first_premise}
use Rattle.plan_certificate.specs.declared.table_stages.TableStage.{TableStage}
use Rattle.plan_certificate.specs.declared.table_stages.TableStage.TheVariants.{Unread, Begun}
use Rattle.plan_certificate.specs.declared.table_stages.TableStage.TheVariants.{Built, Stated}

-- ---- the words of a line

-- each of these names with a number after it, and nothing else
abbrev pub numbers_named : (names words : List (List ℕ)) → Option (List ℕ)
numbers_named [] [] = Some []
numbers_named [] (w ∷ ws) = None
numbers_named (name ∷ names) [] = None
numbers_named (name ∷ names) (w ∷ []) = None
numbers_named (name ∷ names) (w ∷ n ∷ ws) =
    if bytes_eq w name then onto_numbers (number_of n) (numbers_named names ws) else None

-- the numbers of a level that stand in each version, and in version 2
abbrev pub level_names : List (List ℕ)
level_names = words_of (codes "level blocks leaders nodes faults beat span modulus bound bits")

abbrev pub spare_level_names : List (List ℕ)
spare_level_names =
    words_of (codes "level blocks leaders nodes faults beat span modulus bound bits spare")

-- a level of version 1 has no spares
abbrev pub without_spares : Option (List ℕ) → Option (List ℕ)
without_spares None = None
without_spares (Some numbers) = Some (numbers ++ 0 ∷ [])

-- the numbers of the line of a level, its spares last
abbrev pub level_stated : (version : ℕ) → List (List ℕ) → Option (List ℕ)
level_stated version words =
    if version == 1 then without_spares (numbers_named level_names words)
    else numbers_named spare_level_names words

-- those of a plan
abbrev pub plan_names : List (List ℕ)
plan_names = words_of (codes "nodes faults modulus bound bits bytes")

-- the numbers of the line of the whole plan
abbrev pub plan_stated : List (List ℕ) → Option (List ℕ)
plan_stated [] = None
plan_stated (key ∷ words) =
    if bytes_eq key (codes "plan") then numbers_named plan_names words else None

-- ---- the numbers that have to stand there

abbrev pub level_values : (index : ℕ) → LevelNums → List ℕ
level_values index nums =
    index ∷ nums.blocks ∷ nums.leaders ∷ nums.nodes ∷ nums.faults ∷ nums.beat ∷ nums.span
    ∷ nums.modulus ∷ nums.bound ∷ nums.bits ∷ nums.spares ∷ []

abbrev pub plan_values : Plan → List ℕ
plan_values plan =
    plan_nodes plan ∷ plan_faults plan ∷ plan_modulus plan ∷ plan_bound plan ∷ plan_bits plan
    ∷ div_ceil (plan_bits plan) 8 ∷ []

-- the level that these numbers of a line state
abbrev pub level_in : List ℕ → Level
level_in ns = line (slice_index ns 1) (slice_index ns 4) (slice_index ns 7) (slice_index ns 10)

abbrev pub same_numbers : List ℕ → List ℕ → Bool
same_numbers xs ys = pointwise nat_eq xs ys

-- those of a level that is put on top of a plan
abbrev pub values_over : Plan → Level → List ℕ
values_over plan level =
    level_values (plan_depth plan + 1) (numbers_over (numbers_below plan) level)

-- those of the top level of a plan
abbrev pub top_of : (base : ℕ) → List Level → List ℕ
top_of base [] = []
top_of base (level ∷ below) =
    level_values (length below + 1) (numbers_over (below_of base below) level)

abbrev pub top_values : Plan → List ℕ
top_values plan = top_of plan.base plan.levels

-- ---- plans by their lines

abbrev pub unless_premise : Option premise.Premise → Result Plan Cause → Result Plan Cause
unless_premise None after = after
unless_premise (Some premise) after = Err (Premise premise)

-- the plan of a base line with these numbers, or the first cause for which it is refused
abbrev pub based : (version : ℕ) → Option (List ℕ) → Result Plan Cause
based version (Some (base ∷ [])) =
    unless_premise (base_premise base) (Ok (record { version = version; base = base; levels = [] }))
based version other = Err (Premise Form)

-- the plan with the level of a line with these numbers, or the first cause
abbrev pub level_behind : Plan → List ℕ → Result Plan Cause
level_behind plan ns =
    unless_premise (first_premise (numbers_below plan) (level_in ns))
    (if same_numbers ns (values_over plan (level_in ns)) then Ok (with_level plan (level_in ns))
    else Err Value)

-- ---- what a line does

abbrev pub form : Next TableStage Plan Cause
form = refuses (Premise Form)

abbrev pub version_named : List ℕ → Option ℕ
version_named line =
    if bytes_eq line (codes "table 1") then Some 1
    else if bytes_eq line (codes "table 2") then Some 2
    else None

abbrev pub begins : Option ℕ → Next TableStage Plan Cause
begins None = form
begins (Some version) = goes (Begun version)

abbrev pub goes_with : Result Plan Cause → Next TableStage Plan Cause
goes_with (Ok plan) = goes (Built plan)
goes_with (Err cause) = refuses cause

abbrev pub behind_plan_line : Plan → List ℕ → Next TableStage Plan Cause
behind_plan_line plan numbers =
    if same_numbers numbers (plan_values plan) then goes (Stated plan) else refuses Value

-- a level's line, or that of the whole plan
abbrev pub built_by : Plan → (level whole : Option (List ℕ)) → Next TableStage Plan Cause
built_by plan (Some ns) whole = goes_with (level_behind plan ns)
built_by plan None (Some ns) = behind_plan_line plan ns
built_by plan None None = form

abbrev pub table_step : TableStage → List ℕ → Next TableStage Plan Cause
table_step Unread line = begins (version_named line)
table_step (Begun version) line =
    goes_with (based version (numbers_after (codes "base") 1 (words_of line)))
table_step (Built plan) line =
    built_by plan (level_stated plan.version (words_of line)) (plan_stated (words_of line))
table_step (Stated plan) line = if bytes_eq line (codes "end") then ends plan else form

-- ---- all lines

-- after the last line nothing may stand
abbrev pub unless_followed : List (List ℕ) → (rest : List ℕ) → Plan → (last : ℕ)
    → Result Plan (At Cause)
unless_followed [] [] plan last = Ok plan
unless_followed lines rest plan last = Err (record { line = last + 1; rule = Premise Form })

abbrev pub alone : (rest : List ℕ) → Result (Found Plan) (At Cause) → Result Plan (At Cause)
alone rest (Ok found) = unless_followed found.behind rest found.value found.taken
alone rest (Err refusal) = Err refusal

-- The plan of a table text, or its first line that fails, with the first cause. Each line has its
-- newline; a text that lacks its end is refused at the line after the last that has one.
abbrev pub table_of : List ℕ → Result Plan (At Cause)
table_of text =
    alone (open_rest text) (part_from table_step (Premise Form) Unread 0 1 (whole_lines text))
