-- A slot table: each line gives a node some outputs, and no output stands in two lines.
use Rattle.std.specs.Prelude.{◌≡◌, ℕ, ◌<◌, List, [], ◌∷◌, length, Bool, true, ◌&&◌, nat_le, Option}
use Rattle.std.specs.Prelude.{Some, None, if◌then◌else◌, slice_index_or}
use Rattle.slot_table.specs.declared.lines.SlotLine.{SlotLine}

-- whether a line gives its node an output
abbrev pub covers : (output : ℕ) → SlotLine → Bool
covers output line = nat_le line.first output && nat_le output line.last

-- whether one of the outputs from the first to the last stands in a line
abbrev pub meets : (first last : ℕ) → SlotLine → Bool
meets first last line = nat_le line.first last && nat_le first line.last

-- the node of the first line that covers an output
abbrev pub holder_of : List SlotLine → (output : ℕ) → Option ℕ
holder_of [] output = None
holder_of (line ∷ lines) output =
    if covers output line then Some line.node else holder_of lines output

-- node v holds at an output: some line of it covers the output
pub record Holds (lines : List SlotLine) (v output : ℕ) : Type 0 where
  pub place : ℕ
  pub line : SlotLine
  pub inside : place < length lines
  pub at : (d : SlotLine) → slice_index_or lines place d ≡ line
  pub node : line.node ≡ v
  pub covers_it : covers output line ≡ true

-- no output stands in two lines
abbrev pub AreApart : List SlotLine → Type 0
AreApart lines = (i j output : ℕ) (d : SlotLine) → i < length lines → j < length lines
    → covers output (slice_index_or lines i d) ≡ true
    → covers output (slice_index_or lines j d) ≡ true → i ≡ j

-- If no output stands in two lines, a node that holds at an output is its holder.
abbrev pub HolderHolds : Type 0
HolderHolds = (lines : List SlotLine) → AreApart lines → (v output : ℕ) → Holds lines v output
    → holder_of lines output ≡ Some v

-- And the holder holds.
abbrev pub HolderIsOne : Type 0
HolderIsOne = (lines : List SlotLine) (v output : ℕ) → holder_of lines output ≡ Some v
    → Holds lines v output
