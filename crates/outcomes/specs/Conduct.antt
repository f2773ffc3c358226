-- What a call with some words did to its source and its sink, by the status that it answered.
use Rattle.std.specs.Prelude.{◌≡◌, ℕ, List, [], Option, Some, None, Bool, true, false}
use Rattle.std.specs.Io.KnownBytes.{Consumes}
use Rattle.sync_types.specs.declared.status.Status.{Status}
use Rattle.sync_types.specs.declared.status.Status.TheVariants as status
use Rattle.texts.specs.Causes.{Counted}
use Rattle.texts.specs.Growth.{SinkState, Wrote, Cut}
pub use Rattle.node_words.specs.Conduct.{Holds, ReadsFront, ReadsAll, ReadsPart, OutOfMemory}
use Rattle.outcomes.specs.declared.commands.Command.{Command}
use Rattle.outcomes.specs.declared.commands.Command.TheVariants as command
use Rattle.outcomes.specs.Outcomes.{Outcome}
use Rattle.outcomes.specs.Commands.{Manner, nothing, all_first, as_it_goes, manner, defined, so_far}
use Rattle.outcomes.specs.Commands.{IsPending}

-- ---- what was read

-- whether a command of that manner that ends with that status has read all of its input
abbrev pub comes_to_end : Manner → Status → Bool
comes_to_end nothing s = false
comes_to_end all_first status.TooLong = false
comes_to_end all_first other = true
comes_to_end as_it_goes status.Ok = true
comes_to_end as_it_goes (status.Cut packet sender) = true
comes_to_end as_it_goes (status.CertFalse row) = true
comes_to_end as_it_goes other = false

-- The input is what the source has left. A command that reads nothing leaves it.
abbrev pub Reads : Manner → Status → (left left' : Option (List ℕ)) → List ℕ → Type 0
Reads nothing s left left' input = (left' ≡ left) × Holds left input
Reads all_first s left left' input = ReadsPart (comes_to_end all_first s) left left' input
Reads as_it_goes s left left' input = ReadsPart (comes_to_end as_it_goes s) left left' input

-- ---- what was written

-- there is no text, and the sink is as it was
pub record Untouched (text : List ℕ) (old new : SinkState) : Type 0 where
  pub none : text ≡ []
  pub same : new ≡ old

-- a text was written, or the sink was not touched
abbrev pub WritesIf : (writes : Bool) → List ℕ → SinkState → SinkState → Type 0
WritesIf true text old new = Wrote text old new
WritesIf false text old new = Untouched text old new

-- whether a command of that manner that ends with that status has come to write
abbrev pub comes_to_write : Manner → Status → Bool
comes_to_write nothing s = true
comes_to_write all_first status.ReadFault = false
comes_to_write all_first status.TooLong = false
comes_to_write all_first other = true
comes_to_write as_it_goes s = true

abbrev pub Writes : Manner → Status → List ℕ → SinkState → SinkState → Type 0
Writes m s text old new = WritesIf (comes_to_write m s) text old new

-- ---- what was done

-- the status is that of the input's outcome, whose text was written
pub record Answered (m : Manner) (outcome : List ℕ → Outcome) (s : Status)
    (left left' : Option (List ℕ)) (before now : ℕ) (old new : SinkState) : Type 0 where
  pub input : List ℕ
  pub read : Reads m s left left' input
  pub still : now ≡ before
  pub status : s ≡ (outcome input).status
  pub wrote : Writes m s (outcome input).text old new

-- a write failed, and a prefix of the outcome's text was taken
pub record AnswerCut (m : Manner) (outcome : List ℕ → Outcome)
    (left left' : Option (List ℕ)) (before now : ℕ) (old new : SinkState) : Type 0 where
  pub input : List ℕ
  pub read : Reads m status.WriteFault left left' input
  pub still : now ≡ before
  pub cut : Cut (outcome input).text old new

-- one read failed, after bytes that do not show what decides
pub record ReadFailed (m : Manner) (Pending : List ℕ → Type 0) (written : List ℕ → List ℕ)
    (left left' : Option (List ℕ)) (before now : ℕ) (old new : SinkState) : Type 0 where
  pub seen : List ℕ
  pub read : Consumes left left' seen
  pub pending : Pending seen
  pub cause : Counted before now
  pub wrote : Writes m status.ReadFault (written seen) old new

-- no read of a command that reads nothing can fail
abbrev pub IfReads : Manner → Type 0 → Type 0
IfReads nothing P = ⊥
IfReads all_first P = P
IfReads as_it_goes P = P

-- words outside the table take no memory
abbrev pub IfCommand : Option Command → Type 0 → Type 0
IfCommand None P = ⊥
IfCommand (Some command) P = P

-- what a call did that answered this status: the bytes that its source has left, the source's count
-- of faults, and what its sink tells, each before and after
abbrev pub Does : Option Command → Status → (left left' : Option (List ℕ)) (before now : ℕ)
    (old new : SinkState) → Type 0
Does c status.ReadFault left left' before now old new =
    IfReads (manner c)
    (ReadFailed (manner c) (IsPending c) (so_far c) left left' before now old new)
Does c status.WriteFault left left' before now old new =
    AnswerCut (manner c) (defined c) left left' before now old new
Does c status.NoMemory left left' before now old new = IfCommand c (OutOfMemory before now old new)
Does c other left left' before now old new =
    Answered (manner c) (defined c) other left left' before now old new

-- ---- what was not touched, also if a source or a sink tells nothing

-- a command that reads nothing leaves its source as it was, whatever its status
abbrev pub LeavesUnread : {S : Type 0} → Manner → (old new : S) → Type 0
LeavesUnread nothing old new = new ≡ old
LeavesUnread all_first old new = Unit {0}
LeavesUnread as_it_goes old new = Unit {0}

-- A read failed before the end was met: no source is asked again after its end.
abbrev pub LeavesUnmet : Status → (before now : Bool) → Type 0
LeavesUnmet status.ReadFault before now = now ≡ before
LeavesUnmet other before now = Unit {0}

-- Whether a call that ends with that status may have touched its sink: not if memory was refused,
-- nor if a word that writes at its end lost its input.
abbrev pub touches : Option Command → Status → Bool
touches c status.NoMemory = false
touches (Some (command.Batch b)) status.ReadFault = false
touches (Some (command.Batch b)) status.TooLong = false
touches (Some command.Check) status.ReadFault = false
touches (Some command.Check) status.TooLong = false
touches c other = true

abbrev pub KeptUnless : {K : Type 0} → (touched : Bool) → (old new : K) → Type 0
KeptUnless true old new = Unit {0}
KeptUnless false old new = new ≡ old

abbrev pub LeavesUntouched : {K : Type 0} → Option Command → Status → (old new : K) → Type 0
LeavesUntouched c s old new = KeptUnless (touches c s) old new
