-- The line of what is told next, whose text is known but for its digits.
use Rattle.std.specs.Prelude.{◌≡◌, ℕ, ◌<◌, List, [], ◌∷◌, ◌++◌, length, Bool, true, false, Option}
use Rattle.std.specs.Prelude.{Ok, slice_index_or, codes, decimal}
use Rattle.std.specs.List.{concat}
use Rattle.texts.specs.Lines.{is_one_line}
use Rattle.texts.specs.Parts.{goes}
use Rattle.edge_io.specs.declared.feed.Line.TheVariants as how
use Rattle.edge_io.specs.Feeds.{LineIs}
use Rattle.run_checker.specs.Checking.{Stage, line_step}
use Rattle.run_checker.specs.Tellings.{Telling}

-- what stands before the digits that the first node of a pair tells the second
abbrev pub lie_front : ℕ × ℕ → List ℕ
lie_front pair = concat (
    codes "lie " ∷ decimal pair.0
    ∷ codes " " ∷ decimal pair.1
    ∷ codes " " ∷ [])

-- the line is that of the next pair, with these in the place of its digits
pub record IsNextLine (t : Telling) (line digits : List ℕ) : Type 0 where
  pub more : length t.states < length t.pairs
  pub is : line ≡ lie_front (slice_index_or t.pairs (length t.states) (0, 0)) ++ digits

-- a line was taken, or nothing changed
abbrev pub TakesNext : (line : List ℕ) → (old new : Stage) → Bool → Type 0
TakesNext line old new true = (line_step old line ≡ goes new) × (is_one_line line ≡ true)
TakesNext line old new false = new ≡ old

-- the next line of a feed was read where it stood, and taken
pub record IsNextRead (limit before after : ℕ) (old new : Option (List ℕ)) (stage next : Stage)
    : Type 0 where
  pub line : List ℕ
  pub read : LineIs limit before after old new line (Ok how.Whole)
  pub one : is_one_line line ≡ true
  pub step : line_step stage line ≡ goes next
