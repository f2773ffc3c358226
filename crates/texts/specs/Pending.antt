-- Bytes of a text that do not show what decides it: a line shows at its newline, at its byte 4097
-- or at the end.
use Rattle.std.specs.Prelude.{◌≡◌, ◌⊎◌, ℕ, ◌+◌, ◌<◌, ◌≤◌, List, [], ◌∷◌, ◌++◌, length, Bool, true}
use Rattle.std.specs.Prelude.{false, Result, Ok, Err}
use Rattle.texts.specs.Parts.{Found, At}
use Rattle.texts.specs.Words.{open_rest}

-- The text may go on after these bytes: the line that is open is not too long, and no byte is after
-- the limit, if so many were read before.
pub record MayGoOn (limit before : ℕ) (bytes : List ℕ) : Type 0 where
  pub short : length (open_rest bytes) ≤ 4096
  pub within : before + length bytes ≤ limit

-- all of the bytes but the last one are such
pub record AllButLast (Are : List ℕ → Type 0) (bytes : List ℕ) : Type 0 where
  pub front : List ℕ
  pub last : ℕ
  pub parts : bytes ≡ front ++ last ∷ []
  pub pending : Are front

-- a line shows with the last of these bytes: at its newline, or at its byte 4097
abbrev pub IsShown : List ℕ → Type 0
IsShown bytes = (open_rest bytes ≡ []) ⊎ (length (open_rest bytes) ≡ 4097)

-- What decides is the last byte that was read, with which a line shows, and no byte before it; or,
-- if the end was met, the end, and no byte.
abbrev pub AtOnce : (ended : Bool) → (Are : List ℕ → Type 0) → List ℕ → Type 0
AtOnce true Are bytes = Are bytes
AtOnce false Are bytes = AllButLast Are bytes × IsShown bytes

-- the part ends, or is refused, at a line after so many
abbrev pub IsBehind : {V R : Type 0} → (first lines : ℕ) → Result (Found V) (At R) → Type 0
IsBehind first lines (Ok found) = lines < found.taken
IsBehind first lines (Err at) = first + lines ≤ at.line
