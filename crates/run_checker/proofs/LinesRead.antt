-- A line that was read where it stood in the buffer of a feed.
use Rattle.std.proofs.Common.{◌≡◌, ℕ, ◌+◌, ◌≤◌, Bool, true, false, cond, List}
use Rattle.std.proofs.Common.{length, Option, None, refl, sym}
use Rattle.std.proofs.Common.{subst}
use Rattle.std.specs.Prelude.{nat_le}
use Rattle.std.proofs.lemmas.Bool.{leb-true}
use Rattle.texts.specs.EndedTexts.{with_length}
use Rattle.texts.specs.Lines.{words_of}
use Rattle.texts.specs.Parts.{goes}
use Rattle.edge_io.specs.declared.feed.Feed.{Feed}
use Rattle.edge_io.specs.Feeds.{feed_left}
use Rattle.edge_io.proofs.EndedLines.{short_step, goes_on}
use Rattle.edge_io.proofs.Standing.{Standing}
use Rattle.run_checker.specs.Items.{item_of}
use Rattle.run_checker.specs.Checking.{Stage, Onward, step_by, line_step}
use Rattle.run_checker.specs.NextLies.{IsNextRead}

-- the step with the test of a line's length
abbrev pub full : Stage → List ℕ → Onward
full = with_length line_step tt

-- a line with which the text goes on is not too long
short_by : (stage next : Stage) (line : List ℕ) (b : Bool) → nat_le (length line) 4096 ≡ b
    → step_by stage (cond b (item_of (words_of line)) None) ≡ goes next → length line ≤ 4096
short_by stage next line true is e = leb-true (length line) 4096 is
short_by stage next line false is e = absurd cc

pub short_line : (stage next : Stage) (line : List ℕ) → line_step stage line ≡ goes next
    → length line ≤ 4096
short_line stage next line e = short_by stage next line (nat_le (length line) 4096) refl e

module _ {S : Type 0} (left : S → Option (List ℕ)) (start : Stage) (limit : ℕ)
    (old : Option (List ℕ)) where
  -- so many lines were read
  abbrev pub Reads : Feed S → Stage → (number : ℕ) → Type 0
  Reads feed stage number = (lines : ℕ)
      × Standing full tt start 1 limit 0 old (feed_left left feed) stage number lines
      feed.line_bytes

  -- if nothing changed, they are those
  pub reads_still : (now new : Feed S) (stage next : Stage) (number : ℕ)
      → (new ≡ now) × (next ≡ stage) → Reads now stage number → Reads new next number
  reads_still now new stage next number (same, still) h =
      subst (λ (f : Feed S). Reads f next number) (sym same)
      (subst (λ (s : Stage). Reads now s number) (sym still) h)

  -- and one more
  pub reads_next : (now new : Feed S) (stage next : Stage) (number : ℕ)
      → IsNextRead limit now.line_bytes new.line_bytes (feed_left left now) (feed_left left new)
      stage next
      → Reads now stage number → Reads new next (number + 1)
  reads_next now new stage next number is h =
      let short = short_line stage next is.line is.step in
      goes_on line_step tt start limit old (feed_left left now) (feed_left left new) stage number
      h.0 now.line_bytes new.line_bytes is.line is.one short h.1 next is.read
      (short_step line_step tt stage is.line (goes next) short is.step)
