-- What a program did to its source and its sink for what words ask for, by how it ended.
use Rattle.std.specs.Prelude.{◌≡◌, ℕ, ◌≤◌, List, length, Option, Result, Ok, Err}
use Rattle.std.specs.Io.KnownBytes.{Consumes, IsAtEnd}
use Rattle.texts.specs.Causes.{Counted}
use Rattle.texts.specs.Growth.{SinkState, Wrote, Cut}
use Rattle.texts.specs.Limits.{longest_input}
use Rattle.edge_io.specs.Reading.{LosesWithin, LosesMore}
use Rattle.program_words.specs.declared.asked.Asked.{Asked}
use Rattle.program_words.specs.declared.asked.Asked.TheVariants as asked
use Rattle.program_words.specs.declared.errors.ProgramError.{ProgramError}
use Rattle.program_words.specs.declared.errors.ProgramError.TheVariants as error

-- ---- what words ask for

module _ {T R : Type 0} where
  -- the text was written, or a prefix of it
  abbrev pub Tells : Result T (ProgramError R) → (text : List ℕ) → (old new : SinkState) → Type 0
  Tells (Ok value) text old new = Wrote text old new
  Tells (Err error.WriteFault) text old new = Cut text old new
  Tells (Err other) text old new = ⊥

  -- Words that ask for nothing are answered by the error alone; nothing was written.
  abbrev pub IsUsage : Result T (ProgramError R) → (old new : SinkState) → Type 0
  IsUsage result old new = (result ≡ Err error.Usage) × (new ≡ old)

  -- What was done for what is asked, if a program writes these texts and does this for a request.
  abbrev pub DoesAsked : {Q : Type 0} → (help version : List ℕ) → (Does : Q → Type 0) → Asked Q
      → Result T (ProgramError R) → (old new : SinkState) → Type 0
  DoesAsked help version Does asked.Help result old new = Tells result help old new
  DoesAsked help version Does asked.Version result old new = Tells result version old new
  DoesAsked help version Does (asked.Request request) result old new = Does request
  DoesAsked help version Does asked.Nothing result old new = IsUsage result old new

-- words that read nothing leave the source as it was, whatever it tells
abbrev pub LeavesUnread : {Q S : Type 0} → Asked Q → (old new : S) → Type 0
LeavesUnread (asked.Request request) old new = Unit {0}
LeavesUnread other old new = new ≡ old

-- ---- an input that is read as a whole

-- all of the input was read, and this was done with it
pub record IsRead (left left' : Option (List ℕ)) (before now : ℕ) (holds : List ℕ → Type 0)
    : Type 0 where
  pub input : List ℕ
  pub read : Consumes left left' input
  pub end : IsAtEnd left'
  pub short : length input ≤ longest_input
  pub still : now ≡ before
  pub done : holds input

-- What was done with a source of at most 2^20 bytes, if this is done with an input: the bytes that
-- the source has left, its count of faults, and what the sink tells, each before and after. Nothing
-- was written if the input was not read, or memory was refused.
abbrev pub DoesWhole : {T R : Type 0}
    → (Answers : (input : List ℕ) → Result T (ProgramError R) → (old new : SinkState) → Type 0)
    → Result T (ProgramError R)
    → (left left' : Option (List ℕ)) (before now : ℕ) (old new : SinkState) → Type 0
DoesWhole Answers (Err error.Usage) left left' before now old new = ⊥
DoesWhole Answers (Err error.ReadFault) left left' before now old new =
    LosesWithin longest_input left left' × Counted before now × (new ≡ old)
DoesWhole Answers (Err error.TooLong) left left' before now old new =
    LosesMore longest_input left left' × (now ≡ before) × (new ≡ old)
DoesWhole Answers (Err error.NoMemory) left left' before now old new =
    LosesWithin longest_input left left' × (now ≡ before) × (new ≡ old)
DoesWhole Answers result left left' before now old new =
    IsRead left left' before now (λ input. Answers input result old new)

-- ---- what is defined

-- what is made of that which is defined
abbrev pub and_then : {V W R : Type 0} → Result V R → (V → Result W R) → Result W R
and_then (Ok value) made = made value
and_then (Err reason) made = Err reason

-- a call failed as is defined, or since memory was refused
abbrev pub FailsAs : {V R : Type 0} → (defined : Result V R) → ProgramError R → Type 0
FailsAs defined (error.Refused reason) = defined ≡ Err reason
FailsAs defined error.NoMemory = Unit {0}
FailsAs defined other = ⊥

-- What was written of a text: all of it; or nothing, since memory was refused; or a prefix.
abbrev pub WritesText : {T R : Type 0} → (text : List ℕ) → Result T (ProgramError R)
    → (old new : SinkState) → Type 0
WritesText text (Ok value) old new = Wrote text old new
WritesText text (Err error.WriteFault) old new = Cut text old new
WritesText text (Err error.NoMemory) old new = new ≡ old
WritesText text (Err other) old new = ⊥

-- the answer is a text that has this
pub record IsText {R : Type 0} (answer : Result (List ℕ) R) (holds : List ℕ → Type 0) : Type 0 where
  pub text : List ℕ
  pub is : answer ≡ Ok text
  pub has : holds text

-- What was written of an answer: its text; or nothing, since it is this refusal, or memory was
-- refused; or a prefix of the text.
abbrev pub Answers : {T R : Type 0} → (answer : Result (List ℕ) R) → Result T (ProgramError R)
    → (old new : SinkState) → Type 0
Answers answer (Ok value) old new = IsText answer (λ text. Wrote text old new)
Answers answer (Err error.WriteFault) old new = IsText answer (λ text. Cut text old new)
Answers answer (Err (error.Refused reason)) old new = (answer ≡ Err reason) × (new ≡ old)
Answers answer (Err error.NoMemory) old new = new ≡ old
Answers answer (Err other) old new = ⊥
