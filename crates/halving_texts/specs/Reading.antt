-- Which plan a table is of, or its first line that differs.
use Rattle.std.specs.Prelude.{◌≡◌, ℕ, ◌+◌, List, [], ◌∷◌, ◌==◌, if◌then◌else◌, Option, Some, None}
use Rattle.std.specs.Prelude.{Result, Ok, Err, codes, take}
use Rattle.std.specs.Str.{bytes_eq}
use Rattle.texts.specs.Lines.{lines_of, words_of}
use Rattle.texts.specs.Numbers.{number_of}
use Rattle.halving_plan.specs.declared.premises.HalvingPremise.{HalvingPremise}
use Rattle.halving_plan.specs.Plans.{HalvingNumbers, first_premise}
use Rattle.halving_texts.specs.declared.table_reading.TableError.{TableError}
use Rattle.halving_texts.specs.declared.table_reading.TableError.TheVariants as table
use Rattle.halving_texts.specs.Tables.{table_text}

-- the line of the first byte at which two texts differ, if the first line has this number
abbrev pub differs_at : (number : ℕ) → (text other : List ℕ) → Option ℕ
differs_at number [] [] = None
differs_at number [] (y ∷ ys) = Some number
differs_at number (x ∷ xs) [] = Some number
differs_at number (x ∷ xs) (y ∷ ys) =
    if x == y then differs_at (if x == 10 then number + 1 else number) xs ys else Some number

-- the plan, unless it fails a premise
abbrev pub unless_fails : Option HalvingPremise → HalvingNumbers → Option HalvingNumbers
unless_fails None plan = Some plan
unless_fails (Some premise) plan = None

abbrev pub plan_with : (nodes faults modulus : ℕ) → Option HalvingNumbers
plan_with n f c =
    let plan : HalvingNumbers = record { nodes = n; faults = f; modulus = c } in
    unless_fails (first_premise plan) plan

-- the same, if each of them is a number
abbrev pub plan_by : (nodes faults modulus : Option ℕ) → Option HalvingNumbers
plan_by (Some n) (Some f) (Some c) = plan_with n f c
plan_by n f c = None

-- the plan of the words of a line, each number after a name
abbrev pub stated_by : List (List ℕ) → Option HalvingNumbers
stated_by (plan ∷ nodes ∷ n ∷ faults ∷ f ∷ modulus ∷ c ∷ words) =
    plan_by (number_of n) (number_of f) (number_of c)
stated_by words = None

-- the plan that the second line states
abbrev pub stated_in : List (List ℕ) → Option HalvingNumbers
stated_in (first ∷ second ∷ lines) = stated_by (words_of second)
stated_in lines = None

-- the first line that differs from each table, of a text that states no plan
abbrev pub unstated : List ℕ → ℕ
unstated text = if bytes_eq (take 16 text) (codes "table halving 1\n") then 2 else 1

-- the plan, unless that line differs
abbrev pub unless_differs : Option ℕ → HalvingNumbers → Result HalvingNumbers ℕ
unless_differs None plan = Ok plan
unless_differs (Some line) plan = Err line

-- the plan, if the text is its table
abbrev pub compared : List ℕ → Option HalvingNumbers → Result HalvingNumbers ℕ
compared text None = Err (unstated text)
compared text (Some plan) = unless_differs (differs_at 1 text (table_text plan)) plan

-- The plan whose table the text is; or its first line that differs from the table of the plan that
-- its second line states, and from each table if it states none.
abbrev pub table_of : List ℕ → Result HalvingNumbers ℕ
table_of text = compared text (stated_in (lines_of text))

-- what an error of reading a table says of the table that is defined; want of memory says nothing
abbrev pub FailsAsDefined : TableError → Result HalvingNumbers ℕ → Type 0
FailsAsDefined table.NoMemory defined = Unit {0}
FailsAsDefined (table.Differs line) defined = defined ≡ Err line
