-- What reading a part of a text from a feed did.
use Rattle.std.specs.Prelude.{◌≡◌, ℕ, ◌+◌, ◌-◌, ◌<◌, ◌≤◌, List, [], ◌∷◌, ◌++◌, length, Bool, true}
use Rattle.std.specs.Prelude.{false, Option, None, Result, Ok, Err}
use Rattle.std.specs.Io.KnownBytes.{Consumes, IsAtEnd}
use Rattle.texts.specs.Causes.{Counted}
use Rattle.texts.specs.Lines.{lines_of, whole_lines}
use Rattle.texts.specs.Parts.{Next, Found, At, part_from}
use Rattle.texts.specs.Limits.{Limited, by, beyond, with_limit, room_of, behind_lines}
use Rattle.texts.specs.Pending.{MayGoOn, AllButLast, AtOnce}
use Rattle.edge_io.specs.declared.fed_parts.FedPart.{FedPart}
use Rattle.edge_io.specs.declared.fed_parts.FedError.{FedError}
use Rattle.edge_io.specs.declared.fed_parts.FedError.TheVariants as fed

-- what becomes of a part within a limit: its value, with the room after it, or a refusal
abbrev pub LimitedPart : (V R : Type 0) → Type 0
LimitedPart V R = Result (Found (Option ℕ × V)) (At (Limited R))

-- What may follow bytes that were read: anything, unless the end was met after them; then the text
-- is not longer than its limit either.
abbrev pub MayFollow : (ended longer : Bool) → List ℕ → Type 0
MayFollow true longer rest = (rest ≡ []) × (longer ≡ false)
MayFollow false longer rest = Unit {0}

-- Of a part whose step takes every line, skipped and long ones too, and which is refused by `form`
-- if it lacks its end.
module _ {S V R : Type 0} (step : S → List ℕ → Next S V R) (form : R) where
  -- the part of a text within a limit
  abbrev pub limited_part : S → (taken number : ℕ) → Option ℕ → List (List ℕ) → LimitedPart V R
  limited_part s taken number room lines =
      part_from (with_limit step) (by form) (room, s) taken number lines

  -- the part from its start on, if lines of so many bytes were read before, and the text has a byte
  -- after the limit or not
  abbrev pub fed_part : S → (first limit before : ℕ) → (longer : Bool) → List (List ℕ)
      → LimitedPart V R
  fed_part start first limit before longer lines =
      limited_part start 0 first (room_of longer (limit - before)) lines

  -- These bytes do not show what decides the part: none of their whole lines ends it or is refused,
  -- so that they alone would be refused for want of an end.
  pub record PartPending (start : S) (first limit before : ℕ) (bytes : List ℕ) : Type 0 where
    pub lines : limited_part start 0 first None (whole_lines bytes)
        ≡ Err (record { line = first + length (whole_lines bytes); rule = by form })
    pub room : MayGoOn limit before bytes

  -- These bytes were read, and show what decides the part, whatever may follow. That is the last of
  -- them, with which a line shows, or the end.
  pub record Decided (start : S) (first limit before after : ℕ) (old new : Option (List ℕ))
      (outcome : Option ℕ → List ℕ → LimitedPart V R) : Type 0 where
    pub bytes : List ℕ
    pub ended : Bool
    pub read : Consumes old new bytes
    pub at_end : ended ≡ true → IsAtEnd new
    pub count : after ≡ before + length bytes
    pub within : after ≤ limit
    pub at_once : AtOnce ended (λ bs. PartPending start first limit before bs) bytes
    pub decides : (longer : Bool) (rest : List ℕ) → MayFollow ended longer rest
        → fed_part start first limit before longer (lines_of (bytes ++ rest))
        ≡ outcome (room_of longer (limit - after)) rest

  -- these bytes were read, one of them after the limit, and do not show what decides the part
  pub record Undecided (start : S) (first limit before : ℕ)
      (old new : Option (List ℕ)) : Type 0 where
    pub bytes : List ℕ
    pub line : ℕ
    pub read : Consumes old new bytes
    pub past : limit < before + length bytes
    pub at_once : AllButLast (λ bs. PartPending start first limit before bs) bytes
    pub decides : (rest : List ℕ)
        → fed_part start first limit before true (lines_of (bytes ++ rest))
        ≡ Err (record { line = line; rule = beyond })

  -- what is decided if a part ends with this value, and if a line of it is refused
  abbrev pub ends_with : V → (taken : ℕ) → Option ℕ → List ℕ → LimitedPart V R
  ends_with value taken room rest =
      Ok (record { value = (room, value); taken = taken; behind = lines_of rest })

  abbrev pub refused_at : (line : ℕ) → R → Option ℕ → List ℕ → LimitedPart V R
  refused_at line rule room rest = Err (record { line = line; rule = by rule })

  -- these bytes were read, and are the part
  pub record WholePart (start : S) (first limit before after : ℕ) (old new : Option (List ℕ))
      (x : FedPart V) : Type 0 where
    pub decided : Decided start first limit before after old new (ends_with x.value x.lines)
    pub ends : decided.ended ≡ x.ended
    pub behind : (longer : Bool) (rest : List ℕ) → MayFollow decided.ended longer rest
        → behind_lines x.lines (decided.bytes ++ rest) ≡ rest
    pub whole : decided.ended ≡ false → (rest : List ℕ)
        → limited_part start 0 first None (whole_lines (decided.bytes ++ rest))
        ≡ Ok (record { value = (None, x.value); taken = x.lines; behind = whole_lines rest })

  -- these bytes were read, and do not show what decides the part
  pub record LostPart (start : S) (first limit before : ℕ)
      (old new : Option (List ℕ)) : Type 0 where
    pub bytes : List ℕ
    pub read : Consumes old new bytes
    pub lost : PartPending start first limit before bytes

  -- these bytes were read, and none but the last, with which a line shows, or the end, may decide
  -- the part
  pub record HaltedPart (start : S) (first limit before : ℕ)
      (old new : Option (List ℕ)) : Type 0 where
    pub bytes : List ℕ
    pub ended : Bool
    pub read : Consumes old new bytes
    pub at_end : ended ≡ true → IsAtEnd new
    pub at_once : AtOnce ended (λ bs. PartPending start first limit before bs) bytes

  -- what reading a part did
  abbrev pub PartFed : (start : S) (first limit before after : ℕ) (old new : Option (List ℕ))
      → Result (FedPart V) (FedError R) → Type 0
  PartFed start first limit before after old new (Ok x) =
      WholePart start first limit before after old new x
  PartFed start first limit before after old new (Err (fed.Refused r)) =
      Decided start first limit before after old new (refused_at r.line r.rule)
  PartFed start first limit before after old new (Err fed.TooLong) =
      Undecided start first limit before old new
  PartFed start first limit before after old new (Err fed.ReadFault) =
      LostPart start first limit before old new
  PartFed start first limit before after old new (Err fed.NoMemory) =
      HaltedPart start first limit before old new

  -- what the last line of an input made of a part
  abbrev pub IsLastLine : S → (number lines : ℕ) → List ℕ → Result (FedPart V) (FedError R) → Type 0
  IsLastLine s number lines line (Ok x) =
      (part_from step form s lines number (line ∷ [])
      ≡ Ok (record { value = x.value; taken = x.lines; behind = [] }))
      × (true ≡ x.ended)
  IsLastLine s number lines line (Err (fed.Refused r)) =
      part_from step form s lines number (line ∷ [])
      ≡ Err (record { line = r.line; rule = r.rule })
  IsLastLine s number lines line (Err fed.NoMemory) = Unit {0}
  IsLastLine s number lines line (Err fed.ReadFault) = ⊥
  IsLastLine s number lines line (Err fed.TooLong) = ⊥

-- only a read fault is counted; `Dry` holds after it
abbrev pub HasPartCause : {V R : Type 0} → (before now : ℕ) → (Dry : Type 0)
    → Result V (FedError R) → Type 0
HasPartCause before now Dry (Ok x) = now ≡ before
HasPartCause before now Dry (Err fed.ReadFault) = Counted before now × Dry
HasPartCause before now Dry (Err fed.TooLong) = now ≡ before
HasPartCause before now Dry (Err (fed.Refused r)) = now ≡ before
HasPartCause before now Dry (Err fed.NoMemory) = now ≡ before
