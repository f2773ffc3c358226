-- An undisturbed call has the defined outcome, or wants memory.
use Rattle.std.proofs.Common.{◌≡◌, ℕ, suc, ◌-◌, ◌≤◌, inl, inr, Bool, true, false, cond, eqb, List}
use Rattle.std.proofs.Common.{◌++◌, length, Option, Some, None, refl, sym, ap, ◌∙◌, append-nil}
use Rattle.std.proofs.Common.{arith}
use Rattle.texts.specs.Causes.{Counted}
use Rattle.texts.proofs.Causes.{never_counted}
use Rattle.texts.specs.Growth.{SinkState, Wrote, plainly}
use Rattle.texts.proofs.Growth.{wrote_none}
use Rattle.edge_io.specs.Memory.{memory_told}
use Rattle.sync_types.specs.declared.status.Status.{Status}
use Rattle.sync_types.specs.declared.status.Status.TheVariants as status
use Rattle.outcomes.specs.declared.commands.Command.{Command}
use Rattle.outcomes.specs.Commands.{Manner, nothing, all_first, as_it_goes, manner, defined, so_far}
use Rattle.outcomes.specs.Commands.{IsPending}
use Rattle.outcomes.specs.Conduct.{ReadsPart, comes_to_end, Reads, WritesIf, comes_to_write}
use Rattle.outcomes.specs.Conduct.{Answered, AnswerCut, ReadFailed, OutOfMemory, IfReads, IfCommand}
use Rattle.outcomes.specs.Conduct.{Does}
use Rattle.promises.specs.Completeness.{HasOutcome, WantsMemory, HasDefined, UndisturbedIsDefined}
use Rattle.promises.specs.Completeness.{PlainIsDefined, RoomIsDefined, CutsAreUnseen}

-- ---- the input is what the source told

part_told : (whole : Bool) (bytes : List ℕ) (left : Option (List ℕ)) (input : List ℕ)
    → ReadsPart whole (Some bytes) left input → bytes ≡ input
part_told true bytes (Some rest) input h =
    h.read ∙ (ap (λ (r : List ℕ). input ++ r) h.end ∙ append-nil input)
part_told true bytes None input h = absurd h.read
part_told false bytes (Some rest) input h =
    h.read ∙ (ap (λ (r : List ℕ). h.front ++ r) h.rest ∙ sym h.parts)
part_told false bytes None input h = absurd h.read

told : (m : Manner) (s : Status) (bytes : List ℕ) (left : Option (List ℕ)) (input : List ℕ)
    → Reads m s (Some bytes) left input → bytes ≡ input
told nothing s bytes left input h = h.1
told all_first s bytes left input h = part_told (comes_to_end all_first s) bytes left input h
told as_it_goes s bytes left input h = part_told (comes_to_end as_it_goes s) bytes left input h

-- ---- by the status

-- a sink that was not touched took a text that is empty
wrote_if : (writes : Bool) (text : List ℕ) (old new : SinkState) → WritesIf writes text old new
    → Wrote text old new
wrote_if true text old new h = h
wrote_if false text old new h = rw (h.none, h.same) (wrote_none old)

module _ (c : Option Command) (input : List ℕ) (left : Option (List ℕ)) (before now : ℕ)
    (old new : SinkState) where
  -- what was answered is the outcome of the input
  pub answered_outcome : (s : Status)
      → Answered (manner c) (defined c) s (Some input) left before now old new
      → HasOutcome (defined c input) s old new
  answered_outcome s h =
      let is = told (manner c) s input left h.input h.read in
      record {
        status = rw is h.status;
        wrote = rw is
            (wrote_if (comes_to_write (manner c) s) (defined c h.input).text old new h.wrote);
      }

  as_defined : (s : Status) → Answered (manner c) (defined c) s (Some input) left before now old new
      → HasDefined c input s old new
  as_defined s h = inl (answered_outcome s h)

  no_reads : (m : Manner) (P : Type 0) → IfReads m P → P
  no_reads nothing P h = absurd h
  no_reads all_first P h = h
  no_reads as_it_goes P h = h

  wants : (c : Option Command) → IfCommand c (OutOfMemory before now old new)
      → IfCommand c (WantsMemory status.NoMemory old new)
  wants None h = absurd h
  wants (Some command) h = record { status = refl; none = h.none }

  whichever : (s : Status) → Does c s (Some input) left before now old new
      → (Counted before now → ⊥)
      → (AnswerCut (manner c) (defined c) (Some input) left before now old new → ⊥)
      → HasDefined c input s old new
  whichever status.ReadFault h unread uncut =
      absurd
      (unread
      (no_reads (manner c)
      (ReadFailed (manner c) (IsPending c) (so_far c) (Some input) left before now old new)
      h).cause)
  whichever status.WriteFault h unread uncut = absurd (uncut h)
  whichever status.NoMemory h unread uncut = inr (wants c h)
  whichever status.Ok h unread uncut = as_defined status.Ok h
  whichever (status.PlanRefused line premise) h unread uncut =
      as_defined (status.PlanRefused line premise) h
  whichever status.Usage h unread uncut = as_defined status.Usage h
  whichever (status.PartRefused part line rule) h unread uncut =
      as_defined (status.PartRefused part line rule) h
  whichever (status.CertRefused line) h unread uncut = as_defined (status.CertRefused line) h
  whichever (status.TableRefused line cause) h unread uncut =
      as_defined (status.TableRefused line cause) h
  whichever (status.CertFalse row) h unread uncut = as_defined (status.CertFalse row) h
  whichever status.TooLong h unread uncut = as_defined status.TooLong h
  whichever (status.Cut packet sender) h unread uncut = as_defined (status.Cut packet sender) h

pub undisturbed_is_defined : UndisturbedIsDefined
undisturbed_is_defined c s input old new h =
    whichever c input h.left h.before h.now old new s h.does h.none_read
    (λ h'. h.none_written h'.cut.cause)

-- ---- if no fault can be counted

pub plain_is_defined : PlainIsDefined
plain_is_defined c s input rest does =
    whichever c input (Some rest) 0 0 (plainly None 0) (plainly None 0) s does never_counted
    (λ h. never_counted h.cut.cause)

pub room_is_defined : RoomIsDefined
room_is_defined c s input rest sink new does unlisted room =
    whichever c input (Some rest) 0 0 (memory_told sink) new s does never_counted (λ h.
    let is = told (manner c) status.WriteFault input (Some rest) h.input h.read in
    let certain : (memory_told sink).certain
    ≡ suc (sink.room - length sink.taken) = ap
    (λ (fails : List ℕ). cond (eqb (length fails) 0) (suc (sink.room - length sink.taken)) 0)
    unlisted in
    let cut : (memory_told sink).certain ≤ length (defined c input).text = rw is h.cut.uncertain in
    omega (arith, certain, cut, room))

-- ---- two calls

module _ (c : Option Command) (input : List ℕ) (s : Status) (old new : SinkState) where
  no_want : (c : Option Command) → (s ≡ status.NoMemory → ⊥) → IfCommand c (WantsMemory s old new)
      → ⊥
  no_want None not h = h
  no_want (Some command) not h = not h.status

  outcome : (s ≡ status.NoMemory → ⊥) → HasDefined c input s old new
      → HasOutcome (defined c input) s old new
  outcome not (inl h) = h
  outcome not (inr h) = absurd (no_want c not h)

pub cuts_are_unseen : CutsAreUnseen
cuts_are_unseen c input s old new one some other first last two some_too =
    let here = outcome c input s old new some (undisturbed_is_defined c s input old new one) in
    let there = outcome c input other first last some_too
    (undisturbed_is_defined c other input first last two) in
    record {
      status = here.status
          ∙ sym there.status;
      text = (defined c input).text;
      wrote = here.wrote;
      wrote_too = there.wrote;
    }
