-- Lines that are ill parted, and what becomes of them.
use Rattle.std.specs.Prelude.{◌≡◌, ℕ, ◌+◌, false, List, [], ◌∷◌, ◌++◌, length, Err, ◌⊎◌}
use Rattle.std.specs.List.{Contains}
use Rattle.texts.specs.Lines.{words_of}
use Rattle.texts.specs.Parts.{Next, refuses, is_skipped, with_skips, part_from}

-- one of the line's words is empty, or one of its bytes is a carriage return
abbrev pub IsIllParted : List ℕ → Type 0
IsIllParted line = Contains (words_of line) [] ⊎ Contains line 13

-- such a line is refused, if it counts
abbrev pub IllPartedLineIsRefused : (S V R : Type 0) → Type 0
IllPartedLineIsRefused S V R =
    (step : S → List ℕ → Next S V R) (form : R) (s : S) (line : List ℕ)
    → is_skipped line ≡ false → IsIllParted line → with_skips step form s line ≡ refuses form

-- A part is refused there, if the lines before it neither end the part nor are refused: if these
-- alone would be refused for want of an end.
abbrev pub IllPartedLineRefusesPart : (S V R : Type 0) → Type 0
IllPartedLineRefusesPart S V R =
    (step : S → List ℕ → Next S V R) (form : R) (s : S) (taken number : ℕ)
    (front behind : List (List ℕ)) (line : List ℕ)
    → is_skipped line ≡ false → IsIllParted line
    → part_from (with_skips step form) form s taken number front
    ≡ Err (record { line = number + length front; rule = form })
    → part_from (with_skips step form) form s taken number (front ++ line ∷ behind)
    ≡ Err (record { line = number + length front; rule = form })
