-- How a command that has its input ends.
use Rattle.std.specs.Prelude.{◌≡◌, ℕ, List, Result, Ok, Err, MatchResult}
use Rattle.texts.specs.Growth.{SinkState, Wrote, Cut}
use Rattle.sync_types.specs.declared.status.Status.{Status}
use Rattle.sync_types.specs.declared.status.Status.TheVariants as status
use Rattle.outcomes.specs.declared.refusals.Refusal.{Refusal}
use Rattle.outcomes.specs.Outcomes.{outcome_of}
use Rattle.answers.specs.declared.errors.Unanswered.{Unanswered}
use Rattle.answers.specs.declared.errors.Unanswered.TheVariants as end

-- a sink, which tells what it took
module _ {K : Type 0} (told : K → SinkState) where
  -- The text of the answer was written; or there is none, since the input is refused; or memory was
  -- refused, before the sink was touched; or a prefix of the text was taken.
  abbrev pub Answers : {T : Type 0} → Result T Unanswered → (answer : Result (List ℕ) Refusal)
      → (old new : K) → Type 0
  Answers (Ok value) answer old new =
      MatchResult answer (λ text. Wrote text (told old) (told new)) (λ refusal. ⊥)
  Answers (Err end.WriteFault) answer old new =
      MatchResult answer (λ text. Cut text (told old) (told new)) (λ refusal. ⊥)
  Answers (Err (end.Refused refusal)) answer old new = (answer ≡ Err refusal) × (new ≡ old)
  Answers (Err end.NoMemory) answer old new = new ≡ old

  -- the same of the status; the line of a refusal is written too
  abbrev pub Ends : Status → (answer : Result (List ℕ) Refusal) → (old new : K) → Type 0
  Ends status.WriteFault answer old new = Cut (outcome_of answer).text (told old) (told new)
  Ends status.NoMemory answer old new = new ≡ old
  Ends s answer old new =
      (s ≡ (outcome_of answer).status) × Wrote (outcome_of answer).text (told old) (told new)
