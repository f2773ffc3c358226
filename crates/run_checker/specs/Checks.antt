-- A text under a limit, and what checking it did to its source.
use Rattle.std.specs.Prelude.{◌≡◌, ℕ, ◌<◌, ◌≤◌, List, [], ◌++◌, length, Bool, true, false, nat_lt}
use Rattle.std.specs.Prelude.{Option, Result, Ok, Err}
use Rattle.std.specs.Io.KnownBytes.{Consumes, IsAtEnd}
use Rattle.texts.specs.Causes.{Counted}
use Rattle.texts.specs.Parts.{At}
use Rattle.texts.specs.Limits.{Limited, by, beyond}
use Rattle.texts.specs.Pending.{AllButLast, AtOnce}
use Rattle.texts.specs.EndedTexts.{ended_text}
use Rattle.edge_io.specs.FedParts.{MayFollow}
use Rattle.edge_io.specs.EndedReads.{TextPending}
use Rattle.run_checker.specs.declared.Verdict.{Verdict}
use Rattle.run_checker.specs.Checking.{unread, line_step, checked}
use Rattle.run_checker.specs.declared.checks.CheckError.{CheckError}
use Rattle.run_checker.specs.declared.checks.CheckError.TheVariants as check

-- What a text comes to, of which at most so many bytes may be read, and of which there are more or
-- not. A text that is longer than its limit is refused at its first line that is refused up to
-- there, or is too long.
abbrev pub checked_by : (limit : ℕ) → (longer : Bool) → List ℕ
    → Result Verdict (At (Limited (Unit {0})))
checked_by limit longer text = ended_text line_step tt unread limit longer text

-- the same of a text
abbrev pub checked_within : (limit : ℕ) → List ℕ → Result Verdict (At (Limited (Unit {0})))
checked_within limit text = checked_by limit (nat_lt limit (length text)) text

-- an answer to a text that has no limit
abbrev pub unlimited : Result Verdict ℕ → Result Verdict (At (Limited (Unit {0})))
unlimited (Ok verdict) = Ok verdict
unlimited (Err line) = Err (record { line = line; rule = by tt })

-- a text that is not longer than the limit comes to what it is checked to
abbrev pub LimitsMatterBeyond : Type 0
LimitsMatterBeyond = (limit : ℕ) (text : List ℕ) → length text ≤ limit
    → checked_within limit text ≡ unlimited (checked text)

-- These bytes do not show what decides a text: if it ended after them, it would be whole, or be
-- refused at the line that is open, and so at none of their whole lines; and none of them is after
-- the limit.
abbrev pub Pending : (limit : ℕ) → List ℕ → Type 0
Pending limit bytes = TextPending line_step tt unread limit bytes

-- The last of these bytes, a buffer at most, were read ahead of the others, which are such. If the
-- end was met, there are none.
pub record ReadAhead (ended : Bool) (Are : List ℕ → Type 0) (bytes : List ℕ) : Type 0 where
  pub front : List ℕ
  pub ahead : List ℕ
  pub parts : bytes ≡ front ++ ahead
  pub few : length ahead ≤ 4096
  pub none : ended ≡ true → ahead ≡ []
  pub are : Are front

-- What decides is the last byte that was not read ahead, with which a line shows, and no byte
-- before it; or, if the end was met, the end, and no byte.
abbrev pub DecidesAtOnce : (limit : ℕ) (ended : Bool) → List ℕ → Type 0
DecidesAtOnce limit ended bytes = ReadAhead ended (AtOnce ended (Pending limit)) bytes

-- the whole text was read, and comes to this verdict
pub record IsChecked (limit : ℕ) (old new : Option (List ℕ)) (verdict : Verdict) : Type 0 where
  pub text : List ℕ
  pub read : Consumes old new text
  pub at_end : IsAtEnd new
  pub within : length text ≤ limit
  pub is : checked text ≡ Ok verdict

-- These bytes were read, and decide that this line is refused, whatever may follow: nothing if the
-- end was met, and then the text is no longer than the limit.
pub record IsRefused (limit : ℕ) (old new : Option (List ℕ)) (line : ℕ) : Type 0 where
  pub bytes : List ℕ
  pub ended : Bool
  pub read : Consumes old new bytes
  pub at_end : ended ≡ true → IsAtEnd new
  pub within : ended ≡ true → length bytes ≤ limit
  pub at_once : DecidesAtOnce limit ended bytes
  pub decides : (longer : Bool) (rest : List ℕ) → MayFollow ended longer rest
      → checked_by limit longer (bytes ++ rest) ≡ Err (record { line = line; rule = by tt })

-- these bytes were read, one of them after the limit, and no line up to there is refused
pub record IsTooLong (limit : ℕ) (old new : Option (List ℕ)) : Type 0 where
  pub bytes : List ℕ
  pub line : ℕ
  pub read : Consumes old new bytes
  pub past : limit < length bytes
  pub at_once : ReadAhead false (AllButLast (Pending limit)) bytes
  pub decides : (rest : List ℕ)
      → checked_by limit true (bytes ++ rest) ≡ Err (record { line = line; rule = beyond })

-- these bytes were read, and do not show what decides the text
pub record IsLost (limit : ℕ) (old new : Option (List ℕ)) : Type 0 where
  pub bytes : List ℕ
  pub read : Consumes old new bytes
  pub pending : Pending limit bytes

-- These bytes were read before memory was refused: at the line that one of them ends, or, if none
-- was read, before the first.
pub record IsHalted (limit : ℕ) (old new : Option (List ℕ)) : Type 0 where
  pub bytes : List ℕ
  pub none : Bool
  pub read : Consumes old new bytes
  pub before : none ≡ true → bytes ≡ []
  pub at_once : DecidesAtOnce limit none bytes

-- what checking a text did: what its source had left, and has left
abbrev pub Checks : (limit : ℕ) → (old new : Option (List ℕ)) → Result Verdict CheckError → Type 0
Checks limit old new (Ok verdict) = IsChecked limit old new verdict
Checks limit old new (Err (check.Refused refusal)) = IsRefused limit old new refusal.line
Checks limit old new (Err check.TooLong) = IsTooLong limit old new
Checks limit old new (Err check.ReadFault) = IsLost limit old new
Checks limit old new (Err check.NoMemory) = IsHalted limit old new

-- only a read fault is counted, and just one
abbrev pub HasCheckCause : (before now : ℕ) → Result Verdict CheckError → Type 0
HasCheckCause before now (Err check.ReadFault) = Counted before now
HasCheckCause before now (Ok verdict) = now ≡ before
HasCheckCause before now (Err (check.Refused refusal)) = now ≡ before
HasCheckCause before now (Err check.TooLong) = now ≡ before
HasCheckCause before now (Err check.NoMemory) = now ≡ before
