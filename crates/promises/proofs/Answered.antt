-- Inputs are answered within the limit.
use Rattle.std.proofs.Common.{ℕ, Bool, List, length, ap}
use Rattle.std.specs.Prelude.{if◌then◌else◌}
use Rattle.std.proofs.lemmas.Bool.{le-ltb, lt-ltb}
use Rattle.texts.specs.Limits.{longest_input}
use Rattle.outcomes.specs.declared.commands.Batch.{Batch}
use Rattle.outcomes.specs.Outcomes.{Outcome, outcome_of, too_long}
use Rattle.outcomes.specs.Answers.{answer_of}
use Rattle.promises.specs.Answered.{InputsAreAnswered}

-- the outcome, by whether the input is too long
abbrev outcome_by : Batch → List ℕ → Bool → Outcome
outcome_by b input long = if long then too_long else outcome_of (answer_of b input)

pub inputs_are_answered : InputsAreAnswered
inputs_are_answered = record {
  answers = λ b input few. ap (outcome_by b input) (le-ltb longest_input (length input) few);
  long = λ b input more. ap (outcome_by b input) (lt-ltb longest_input (length input) more);
}
