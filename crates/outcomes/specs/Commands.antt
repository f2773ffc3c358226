-- The words of a command, how it reads, and what it makes of its input.
use Rattle.std.specs.Prelude.{ℕ, ◌^◌, ◌≤◌, length, List, [], ◌∷◌, Option, Some, None, Err}
use Rattle.std.specs.Prelude.{if◌then◌else◌, codes}
use Rattle.std.specs.Option.{option_map}
use Rattle.std.specs.Str.{bytes_eq}
use Rattle.texts.specs.Numbers.{number_of}
use Rattle.texts.specs.Limits.{longest_input}
use Rattle.run_checker.specs.Checks.{Pending}
use Rattle.outcomes.specs.declared.commands.Command.{Command}
use Rattle.outcomes.specs.declared.commands.Command.TheVariants as command
use Rattle.outcomes.specs.declared.commands.Batch.TheVariants as batch
use Rattle.outcomes.specs.declared.refusals.Refusal.TheVariants as refusal
use Rattle.outcomes.specs.Outcomes.{Outcome, outcome_of, of_whole}
use Rattle.outcomes.specs.Answers.{answer_of}
use Rattle.outcomes.specs.NodeAnswers.{node_outcome, node_so_far, IsNodePending}
use Rattle.outcomes.specs.DemoText.{demo_text}
use Rattle.outcomes.specs.CheckAnswers.{check_outcome}

-- a word, and what it commands
pub record Row : Type 0 where
  pub word : List ℕ
  pub command : Command

abbrev pub row : List ℕ → Command → Row
row word command = record { word = word; command = command }

-- the table of single words
abbrev pub table : List Row
table =
    row (codes "run") (command.Batch batch.Run)
    ∷ row (codes "record") (command.Batch batch.Record)
    ∷ row (codes "explain") (command.Batch batch.Explain)
    ∷ row (codes "plan") (command.Batch batch.Plan)
    ∷ row (codes "upgrade") (command.Batch batch.Upgrade)
    ∷ row (codes "table") (command.Batch batch.Table)
    ∷ row (codes "find") (command.Batch batch.Find)
    ∷ row (codes "slots") (command.Batch batch.Slots)
    ∷ row (codes "consensus") (command.Batch batch.Consensus)
    ∷ row (codes "fire") (command.Batch batch.Fire)
    ∷ row (codes "log") (command.Batch batch.Log)
    ∷ row (codes "check") command.Check
    ∷ row (codes "node") command.Node ∷ []

-- the command of a single word
abbrev pub named_in : List Row → List ℕ → Option Command
named_in [] word = None
named_in (r ∷ rows) word = if bytes_eq word r.word then Some r.command else named_in rows word

-- the command of two words: `demo` and a number
abbrev pub seeded_command : List ℕ → List ℕ → Option Command
seeded_command word seed =
    if bytes_eq word (codes "demo") then option_map command.Demo (number_of seed) else None

abbrev pub command_of : List (List ℕ) → Option Command
command_of [] = None
command_of (word ∷ []) = named_in table word
command_of (word ∷ seed ∷ []) = seeded_command word seed
command_of (word ∷ other ∷ third ∷ words) = None

-- what the program makes of an input
abbrev pub defined : Option Command → List ℕ → Outcome
defined None input = outcome_of (Err refusal.Usage)
defined (Some (command.Batch b)) input = of_whole longest_input (answer_of b) input
defined (Some command.Check) input = check_outcome input
defined (Some command.Node) input = node_outcome input
defined (Some (command.Demo seed)) input = outcome_of (answer_of batch.Run (demo_text seed))

-- How a command reads: not at all, or all of its input before it writes, or what it needs for each
-- piece that it writes.
pub data Manner : Type 0 where
  nothing : Manner
  all_first : Manner
  as_it_goes : Manner

abbrev pub manner : Option Command → Manner
manner None = nothing
manner (Some (command.Batch b)) = all_first
manner (Some command.Check) = as_it_goes
manner (Some command.Node) = as_it_goes
manner (Some (command.Demo seed)) = nothing

-- Bytes that do not show what decides: more may follow, on which the outcome depends. None of them
-- is after the limit, and a command that reads as it goes has not come to its answer.
abbrev pub IsPending : Option Command → (seen : List ℕ) → Type 0
IsPending (Some (command.Batch b)) seen = length seen ≤ longest_input
IsPending (Some command.Check) seen = Pending (2 ^ 44) seen
IsPending (Some command.Node) seen = IsNodePending seen
IsPending other seen = Unit {0}

-- what is written if a read fails after these bytes
abbrev pub so_far : Option Command → List ℕ → List ℕ
so_far (Some command.Node) seen = node_so_far seen
so_far other seen = []
