-- What the program makes of an input: a status, and the text that is written.
use Rattle.std.specs.Prelude.{ℕ, List, [], length, nat_lt, Result, Ok, Err, if◌then◌else◌}
use Rattle.sync_types.specs.declared.status.Status.{Status}
use Rattle.sync_types.specs.declared.status.Status.TheVariants as status
use Rattle.outcomes.specs.declared.refusals.Refusal.{Refusal}
use Rattle.outcomes.specs.Refusals.{refusal_line, refusal_status}

pub record Outcome : Type 0 where
  pub status : Status
  pub text : List ℕ

-- the text of an answer, or the line of a refusal
abbrev pub outcome_of : Result (List ℕ) Refusal → Outcome
outcome_of (Ok text) = record { status = status.Ok; text = text }
outcome_of (Err refusal) = record { status = refusal_status refusal; text = refusal_line refusal }

-- of an input that is too long nothing is written
abbrev pub too_long : Outcome
too_long = record { status = status.TooLong; text = [] }

-- the outcome of an input that is answered as a whole, and has at most so many bytes
abbrev pub of_whole : ℕ → (List ℕ → Result (List ℕ) Refusal) → List ℕ → Outcome
of_whole limit answer input =
    if nat_lt limit (length input) then too_long else outcome_of (answer input)
