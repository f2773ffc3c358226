-- The word of a node in a line of who holds.
use Rattle.std.specs.Prelude.{◌≡◌, ℕ, ◌↔◌, nat_eq, List, Some, codes, if◌then◌else◌}
use Rattle.std.specs.Option.{option_eq}
use Rattle.slot_table.specs.declared.lines.SlotLine.{SlotLine}
use Rattle.slot_table.specs.Tables.{holder_of, Holds, AreApart}

-- the word of a node that shows an output: whether it is its holder
abbrev pub hold_word_at : List SlotLine → (output v : ℕ) → List ℕ
hold_word_at lines output v =
    if option_eq nat_eq (holder_of lines output) (Some v) then codes " 1" else codes " ."

-- The word of node v is 1 exactly if some line of the table gives v that output, and else a dot.
pub record IsHoldWord (lines : List SlotLine) (output v : ℕ) : Type 0 where
  pub one : (hold_word_at lines output v ≡ codes " 1") ↔ Holds lines v output
  pub dot : (Holds lines v output → ⊥) → hold_word_at lines output v ≡ codes " ."

-- so is each word
abbrev pub WordsAreExact : Type 0
WordsAreExact =
    (lines : List SlotLine) → AreApart lines → (output v : ℕ) → IsHoldWord lines output v

-- If nodes show one output, the word of one of them at most is 1.
abbrev pub OneHolds : Type 0
OneHolds = (lines : List SlotLine) (output u v : ℕ) → hold_word_at lines output u ≡ codes " 1"
    → hold_word_at lines output v ≡ codes " 1" → u ≡ v
