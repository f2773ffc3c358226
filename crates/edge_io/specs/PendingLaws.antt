-- That pending bytes do not show what decides: what follows them does.
use Rattle.std.specs.Prelude.{ℕ, ◌<◌, List, ◌++◌, length, Bool, Result, Ok, Err}
use Rattle.texts.specs.Lines.{lines_of, whole_lines}
use Rattle.texts.specs.Parts.{Next, At}
use Rattle.texts.specs.Pending.{IsBehind}
use Rattle.texts.specs.EndedTexts.{ended_text}
use Rattle.edge_io.specs.FedParts.{fed_part, PartPending}
use Rattle.edge_io.specs.EndedReads.{TextPending}

-- whatever follows them, the part ends, or is refused, at a line after their whole lines
abbrev pub PendingPartGoesOn : (S V R : Type 0) → Type 0
PendingPartGoesOn S V R =
    (step : S → List ℕ → Next S V R) (form : R) (start : S) (first limit before : ℕ)
    (bytes : List ℕ) → PartPending step form start first limit before bytes
    → (longer : Bool) (rest : List ℕ)
    → IsBehind first (length (whole_lines bytes))
    (fed_part step form start first limit before longer (lines_of (bytes ++ rest)))

-- a text is not refused, or is at a line after so many
abbrev pub RefusedBehind : {V R : Type 0} → ℕ → Result V (At R) → Type 0
RefusedBehind lines (Ok value) = Unit {0}
RefusedBehind lines (Err at) = lines < at.line

-- whatever follows them, none of their whole lines is refused
abbrev pub PendingTextGoesOn : (S V R : Type 0) → Type 0
PendingTextGoesOn S V R =
    (step : S → List ℕ → Next S V R) (form : R) (start : S) (limit : ℕ) (bytes : List ℕ)
    → TextPending step form start limit bytes → (longer : Bool) (rest : List ℕ)
    → RefusedBehind (length (whole_lines bytes))
    (ended_text step form start limit longer (bytes ++ rest))
