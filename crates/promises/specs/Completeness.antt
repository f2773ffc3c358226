-- Which outcomes a call can have whose source tells its bytes, and in which no fault is counted.
use Rattle.std.specs.Prelude.{◌≡◌, ℕ, ◌+◌, ◌≤◌, ◌⊎◌, List, [], length, Option, Some, None}
use Rattle.sync_types.specs.declared.status.Status.{Status}
use Rattle.sync_types.specs.declared.status.Status.TheVariants as status
use Rattle.texts.specs.Causes.{Counted}
use Rattle.texts.specs.Growth.{SinkState, Wrote, plainly}
use Rattle.edge_io.specs.Memory.{MemSinkState, memory_told}
use Rattle.outcomes.specs.declared.commands.Command.{Command}
use Rattle.outcomes.specs.Outcomes.{Outcome}
use Rattle.outcomes.specs.Commands.{defined}
use Rattle.outcomes.specs.Conduct.{IfCommand, Does}

-- a call with such words that answered this status, over a source that tells these bytes, and in
-- which no fault was counted
pub record Undisturbed (c : Option Command) (s : Status) (input : List ℕ)
    (old new : SinkState) : Type 0 where
  pub left : Option (List ℕ)
  pub before : ℕ
  pub now : ℕ
  pub does : Does c s (Some input) left before now old new
  pub none_read : Counted before now → ⊥
  pub none_written : Counted old.faults new.faults → ⊥

-- the status is that of the outcome, and its text was written
pub record HasOutcome (outcome : Outcome) (s : Status) (old new : SinkState) : Type 0 where
  pub status : s ≡ outcome.status
  pub wrote : Wrote outcome.text old new

-- memory was refused, and nothing was written
pub record WantsMemory (s : Status) (old new : SinkState) : Type 0 where
  pub status : s ≡ status.NoMemory
  pub none : new ≡ old

-- the defined outcome, or, if the words are in the table, want of memory
abbrev pub HasDefined : Option Command → (input : List ℕ) → Status → (old new : SinkState) → Type 0
HasDefined c input s old new =
    HasOutcome (defined c input) s old new ⊎ IfCommand c (WantsMemory s old new)

-- An undisturbed call has the defined outcome, or wants memory.
abbrev pub UndisturbedIsDefined : Type 0
UndisturbedIsDefined = (c : Option Command) (s : Status) (input : List ℕ) (old new : SinkState)
    → Undisturbed c s input old new → HasDefined c input s old new

-- Over a source and a sink whose counts are always 0, like `PlainSource` and `NullSink`, every call
-- is undisturbed.
abbrev pub PlainIsDefined : Type 0
PlainIsDefined = (c : Option Command) (s : Status) (input rest : List ℕ)
    → Does c s (Some input) (Some rest) 0 0 (plainly None 0) (plainly None 0)
    → HasDefined c input s (plainly None 0) (plainly None 0)

-- So it is over such a source and a `MemSink` that has room for the defined text, and of which no
-- call is to fail.
abbrev pub RoomIsDefined : Type 0
RoomIsDefined = (c : Option Command) (s : Status) (input rest : List ℕ)
    (sink : MemSinkState) (new : SinkState)
    → Does c s (Some input) (Some rest) 0 0 (memory_told sink) new
    → sink.fails ≡ []
    → length sink.taken + length (defined c input).text ≤ sink.room
    → HasDefined c input s (memory_told sink) new

-- two calls have one status, and wrote one text
pub record SameOutcome (s : Status) (old new : SinkState) (other : Status)
    (first last : SinkState) : Type 0 where
  pub status : s ≡ other
  pub text : List ℕ
  pub wrote : Wrote text old new
  pub wrote_too : Wrote text first last

-- Two undisturbed calls with the same words over the same bytes have the same outcome, however
-- their reads cut these bytes, unless one of them wants memory.
abbrev pub CutsAreUnseen : Type 0
CutsAreUnseen = (c : Option Command) (input : List ℕ)
    → (s : Status) (old new : SinkState) → Undisturbed c s input old new → (s ≡ status.NoMemory → ⊥)
    → (other : Status) (first last : SinkState) → Undisturbed c other input first last
    → (other ≡ status.NoMemory → ⊥)
    → SameOutcome s old new other first last
