-- What reading a header from a feed did.
use Rattle.std.specs.Prelude.{◌≡◌, ℕ, ◌+◌, ◌<◌, ◌≤◌, List, ◌++◌, length, Bool, true, false}
use Rattle.std.specs.Prelude.{Option, Some, None, Result, Ok, Err}
use Rattle.std.specs.Io.KnownBytes.{Consumes, IsAtEnd}
use Rattle.texts.specs.Causes.{Counted}
use Rattle.texts.specs.Lines.{lines_of, whole_lines}
use Rattle.texts.specs.Limits.{room_of, behind_lines, longest_input}
use Rattle.texts.specs.Pending.{MayGoOn, AllButLast, AtOnce}
use Rattle.edge_io.specs.declared.fed_parts.FedError.{FedError}
use Rattle.edge_io.specs.declared.fed_parts.FedError.TheVariants as fed
use Rattle.edge_io.specs.FedParts.{MayFollow}
use Rattle.sync_types.specs.declared.answers.Rule.{Rule}
use Rattle.node_words.specs.declared.headers.HeaderRefusal.{HeaderRefusal}
use Rattle.node_words.specs.declared.headers.HeaderRefusal.TheVariants as refusal
use Rattle.node_words.specs.declared.headers.HeaderRead.{HeaderRead}
use Rattle.node_words.specs.declared.headers.HeaderError.{HeaderError}
use Rattle.node_words.specs.declared.headers.HeaderError.TheVariants as error
use Rattle.node_words.specs.HeaderParts.{PlanPart, HeaderOf, header_in}

-- the line that is refused
abbrev pub refused_line : {Premise : Type 0} → HeaderRefusal Premise → ℕ
refused_line (refusal.Plan line premise) = line
refused_line (refusal.Node line rule) = line

module _ {Reader Plan Premise : Type 0} (plans : PlanPart Reader Plan Premise) where
  -- These bytes do not show what decides the header: none of their whole lines ends it or is
  -- refused, so that these lines alone would be refused at the line after them, for want of an end.
  pub record HeaderPending (bytes : List ℕ) : Type 0 where
    pub refusal : HeaderRefusal Premise
    pub lines : header_in plans None (whole_lines bytes) ≡ Err (Some refusal)
    pub behind : refused_line refusal ≡ 1 + length (whole_lines bytes)
    pub room : MayGoOn longest_input 0 bytes

  -- These bytes were read, and show what decides the header, whatever may follow. That is the last
  -- of them, with which a line shows, or the end.
  pub record HeaderDecided (old new : Option (List ℕ))
      (outcome : Result (HeaderOf Plan) (Option (HeaderRefusal Premise))) : Type 0 where
    pub bytes : List ℕ
    pub ended : Bool
    pub read : Consumes old new bytes
    pub at_end : ended ≡ true → IsAtEnd new
    pub within : length bytes ≤ longest_input
    pub at_once : AtOnce ended HeaderPending bytes
    pub decides : (longer : Bool) (rest : List ℕ) → MayFollow ended longer rest
        → header_in plans (room_of longer longest_input) (lines_of (bytes ++ rest)) ≡ outcome

  -- they are a whole header
  pub record HeaderWhole (old new : Option (List ℕ)) (x : HeaderRead Plan) : Type 0 where
    pub header : HeaderOf Plan
    pub plan : header.plan ≡ x.plan
    pub node : header.node ≡ x.header
    pub decided : HeaderDecided old new (Ok header)
    pub ends : decided.ended ≡ x.ended
    pub behind : (longer : Bool) (rest : List ℕ) → MayFollow decided.ended longer rest
        → behind_lines header.lines (decided.bytes ++ rest) ≡ rest
    pub whole : decided.ended ≡ false → (rest : List ℕ)
        → header_in plans None (whole_lines (decided.bytes ++ rest)) ≡ Ok header

  -- they do not show what decides it, and the last of them is the one after the limit
  pub record HeaderTooLong (old new : Option (List ℕ)) : Type 0 where
    pub bytes : List ℕ
    pub read : Consumes old new bytes
    pub past : longest_input < length bytes
    pub at_once : AllButLast HeaderPending bytes
    pub decides : (rest : List ℕ)
        → header_in plans (room_of true longest_input) (lines_of (bytes ++ rest)) ≡ Err None

  -- they do not show what decides it
  pub record HeaderLost (old new : Option (List ℕ)) : Type 0 where
    pub bytes : List ℕ
    pub read : Consumes old new bytes
    pub lost : HeaderPending bytes

  -- none but the last of them, with which a line shows, or the end, may decide it
  pub record HeaderHalted (old new : Option (List ℕ)) : Type 0 where
    pub bytes : List ℕ
    pub ended : Bool
    pub read : Consumes old new bytes
    pub at_end : ended ≡ true → IsAtEnd new
    pub at_once : AtOnce ended HeaderPending bytes

  abbrev pub HeaderFed : (old new : Option (List ℕ))
      → Result (HeaderRead Plan) (HeaderError Premise) → Type 0
  HeaderFed old new (Ok x) = HeaderWhole old new x
  HeaderFed old new (Err (error.Refused r)) = HeaderDecided old new (Err (Some r))
  HeaderFed old new (Err error.TooLong) = HeaderTooLong old new
  HeaderFed old new (Err error.ReadFault) = HeaderLost old new
  HeaderFed old new (Err error.NoMemory) = HeaderHalted old new

-- why no header was read, if its plan was not read, or its node was not
abbrev pub plan_failed : {Premise : Type 0} → FedError Premise → HeaderError Premise
plan_failed fed.ReadFault = error.ReadFault
plan_failed fed.TooLong = error.TooLong
plan_failed (fed.Refused at) = error.Refused (refusal.Plan at.line at.rule)
plan_failed fed.NoMemory = error.NoMemory

abbrev pub node_failed : {Premise : Type 0} → FedError Rule → HeaderError Premise
node_failed fed.ReadFault = error.ReadFault
node_failed fed.TooLong = error.TooLong
node_failed (fed.Refused at) = error.Refused (refusal.Node at.line at.rule)
node_failed fed.NoMemory = error.NoMemory

-- only a read fault is counted, and just one; `Dry` holds after it
abbrev pub HasHeaderCause : {V Premise : Type 0} → (before now : ℕ) → (Dry : Type 0)
    → Result V (HeaderError Premise) → Type 0
HasHeaderCause before now Dry (Err error.ReadFault) = Counted before now × Dry
HasHeaderCause before now Dry other = now ≡ before
