-- What a command that reads all of its input first makes of it: an answer, within the limit.
use Rattle.std.specs.Prelude.{◌≡◌, ℕ, ◌<◌, ◌≤◌, List, [], length, Some}
use Rattle.texts.specs.Limits.{longest_input}
use Rattle.sync_types.specs.declared.status.Status.TheVariants as status
use Rattle.outcomes.specs.declared.commands.Batch.{Batch}
use Rattle.outcomes.specs.declared.commands.Command.TheVariants as command
use Rattle.outcomes.specs.Outcomes.{outcome_of}
use Rattle.outcomes.specs.Answers.{answer_of}
use Rattle.outcomes.specs.Commands.{defined}

-- An input of at most 2^20 bytes is answered, by a text or a refusal. Of a longer one nothing is
-- written.
pub record InputsAreAnswered : Type 0 where
  pub answers : (b : Batch) (input : List ℕ) → length input ≤ longest_input
      → defined (Some (command.Batch b)) input ≡ outcome_of (answer_of b input)
  pub long : (b : Batch) (input : List ℕ) → longest_input < length input
      → defined (Some (command.Batch b)) input ≡ record { status = status.TooLong; text = [] }
