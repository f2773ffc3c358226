-- What the loop over the lines of a part keeps.
use Rattle.std.proofs.Common.{◌≡◌, ℕ, ◌+◌, ◌-◌, ◌≤◌, List, length, drop}
use Rattle.texts.specs.Lines.{lines_of}
use Rattle.texts.specs.Parts.{Next, with_skips, part_from}

-- so far the lines before the rest were read, and reading on from here gives what reading from the
-- start gives
pub record PartSoFar {S V R : Type 0} (step : S → List ℕ → Next S V R) (form : R)
    (start state : S) (text rest : List ℕ) (first number lines : ℕ) : Type 0 where
  pub short : length rest ≤ length text
  pub suffix : rest ≡ drop (length text - length rest) text
  pub count : number ≡ first + lines
  pub fits : lines + length rest ≤ length text
  pub so_far : part_from (with_skips step form) form state lines number (lines_of rest)
      ≡ part_from (with_skips step form) form start 0 first (lines_of text)
