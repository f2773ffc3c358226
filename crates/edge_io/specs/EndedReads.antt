-- What reading a text whose lines all end with a newline, from its beginning to its end, did.
use Rattle.std.specs.Prelude.{◌≡◌, ℕ, ◌+◌, ◌-◌, ◌<◌, ◌≤◌, List, ◌∷◌, ◌++◌, length, Bool, true}
use Rattle.std.specs.Prelude.{false, Option, Result, Ok, Err}
use Rattle.std.specs.Io.KnownBytes.{Consumes, Keeps, IsAtEnd}
use Rattle.texts.specs.Lines.{lines_of, whole_lines, is_one_line}
use Rattle.texts.specs.Parts.{Next, At}
use Rattle.texts.specs.Limits.{Limited, by, beyond, shows, room_of}
use Rattle.texts.specs.Pending.{MayGoOn, AllButLast, AtOnce}
use Rattle.texts.specs.EndedTexts.{ended_text}
use Rattle.edge_io.specs.FedParts.{MayFollow}
use Rattle.edge_io.specs.declared.fed_parts.FedError.{FedError}
use Rattle.edge_io.specs.declared.fed_parts.FedError.TheVariants as fed

-- a text that is whole, or is refused at that line and no other
abbrev pub RefusedOnlyAt : {V R : Type 0} → (line : ℕ) → R → Result V (At (Limited R)) → Type 0
RefusedOnlyAt line form (Ok value) = Unit {0}
RefusedOnlyAt line form (Err at) = at ≡ record { line = line; rule = by form }

module _ {S V R : Type 0} (step : S → List ℕ → Next S V R) (form : R) where
  -- These bytes do not show what decides the text: if it ended after them, it would be whole, or be
  -- refused at the line that is open, and so at none of their whole lines.
  pub record TextPending (start : S) (limit : ℕ) (bytes : List ℕ) : Type 0 where
    pub lines : RefusedOnlyAt (1 + length (whole_lines bytes)) form
        (ended_text step form start limit false bytes)
    pub room : MayGoOn limit 0 bytes

  -- these bytes were read, and all there were, and are the text of that value
  pub record WholeText (start : S) (limit : ℕ)
      (old new : Option (List ℕ)) (value : V) : Type 0 where
    pub bytes : List ℕ
    pub read : Consumes old new bytes
    pub at_end : IsAtEnd new
    pub within : length bytes ≤ limit
    pub is : ended_text step form start limit false bytes ≡ Ok value

  -- These bytes were read, and show that a line is refused, whatever may follow. What decides is
  -- the last of them, with which a line shows, or the end.
  pub record RefusedText (start : S) (limit : ℕ)
      (old new : Option (List ℕ)) (line : ℕ) (rule : R) : Type 0 where
    pub bytes : List ℕ
    pub ended : Bool
    pub read : Consumes old new bytes
    pub at_end : ended ≡ true → IsAtEnd new
    pub within : length bytes ≤ limit
    pub at_once : AtOnce ended (λ bs. TextPending start limit bs) bytes
    pub decides : (longer : Bool) (rest : List ℕ) → MayFollow ended longer rest
        → ended_text step form start limit longer (bytes ++ rest)
        ≡ Err (record { line = line; rule = by rule })

  -- these bytes were read, one of them after the limit, and do not show what decides the text
  pub record LongText (start : S) (limit : ℕ) (old new : Option (List ℕ)) : Type 0 where
    pub bytes : List ℕ
    pub line : ℕ
    pub read : Consumes old new bytes
    pub past : limit < length bytes
    pub at_once : AllButLast (λ bs. TextPending start limit bs) bytes
    pub decides : (rest : List ℕ)
        → ended_text step form start limit true (bytes ++ rest)
        ≡ Err (record { line = line; rule = beyond })

  -- these bytes were read, and do not show what decides the text
  pub record LostText (start : S) (limit : ℕ) (old new : Option (List ℕ)) : Type 0 where
    pub bytes : List ℕ
    pub read : Consumes old new bytes
    pub lost : TextPending start limit bytes

  -- these bytes were read, and none but the last, with which a line shows, may decide the text
  pub record HaltedText (start : S) (limit : ℕ) (old new : Option (List ℕ)) : Type 0 where
    pub bytes : List ℕ
    pub read : Consumes old new bytes
    pub at_once : AtOnce false (λ bs. TextPending start limit bs) bytes

  -- what reading such a text did
  abbrev pub TextRead : (start : S) (limit : ℕ) (old new : Option (List ℕ)) → Result V (FedError R)
      → Type 0
  TextRead start limit old new (Ok value) = WholeText start limit old new value
  TextRead start limit old new (Err (fed.Refused r)) = RefusedText start limit old new r.line r.rule
  TextRead start limit old new (Err fed.TooLong) = LongText start limit old new
  TextRead start limit old new (Err fed.ReadFault) = LostText start limit old new
  TextRead start limit old new (Err fed.NoMemory) = HaltedText start limit old new

-- there is a first line, and it is shown or not
pub record FirstIs (shown : Bool) (room : Option ℕ) (lines : List (List ℕ)) : Type 0 where
  pub line : List ℕ
  pub behind : List (List ℕ)
  pub is : lines ≡ line ∷ behind
  pub seen : shows room line ≡ shown

-- these bytes begin a line, and do not show it
pub record LinePending (limit before : ℕ) (bytes : List ℕ) : Type 0 where
  pub one : is_one_line bytes ≡ true
  pub short : length bytes ≤ 4096
  pub within : before + length bytes ≤ limit

-- these bytes were read of a line, and show it, whatever may follow
pub record LineBehind (limit before : ℕ) (old new : Option (List ℕ)) : Type 0 where
  pub bytes : List ℕ
  pub ended : Bool
  pub read : Consumes old new bytes
  pub at_end : ended ≡ true → IsAtEnd new
  pub within : before + length bytes ≤ limit
  pub at_once : AtOnce ended (λ bs. LinePending limit before bs) bytes
  pub shown : (longer : Bool) (rest : List ℕ) → MayFollow ended longer rest
      → FirstIs true (room_of longer (limit - before)) (lines_of (bytes ++ rest))

-- these bytes were read of a line, one of them after the limit, and don't show it
pub record LineBeyond (limit before : ℕ) (old new : Option (List ℕ)) : Type 0 where
  pub bytes : List ℕ
  pub read : Consumes old new bytes
  pub past : limit < before + length bytes
  pub at_once : AllButLast (λ bs. LinePending limit before bs) bytes
  pub hidden : (rest : List ℕ)
      → FirstIs false (room_of true (limit - before)) (lines_of (bytes ++ rest))

-- what looking for the end after the last line did, if so many bytes were read before
abbrev pub EndIs : {R : Type 0} → (form : R) (number limit before : ℕ) (old new : Option (List ℕ))
    → Result Unit (FedError R) → Type 0
EndIs form number limit before old new (Ok x) = Keeps old new × IsAtEnd new
EndIs form number limit before old new (Err (fed.Refused r)) =
    (r.line ≡ number) × (r.rule ≡ form) × LineBehind limit before old new
EndIs form number limit before old new (Err fed.TooLong) = LineBeyond limit before old new
EndIs form number limit before old new (Err fed.ReadFault) =
    (bytes : List ℕ) × Consumes old new bytes × LinePending limit before bytes
EndIs form number limit before old new (Err fed.NoMemory) = ⊥
