-- That skipped lines change nothing, and so which line the number of a refusal is.
use Rattle.std.specs.Prelude.{◌≡◌, ℕ, ◌≤◌, List, ◌∷◌, ◌++◌, length, take, drop, true, Result, Ok}
use Rattle.std.specs.Prelude.{Err}
use Rattle.texts.specs.Lines.{lines_of, is_one_line}
use Rattle.texts.specs.Words.{text_of}
use Rattle.texts.specs.Parts.{is_skipped}
use Rattle.node_words.specs.Skips.{further, HeaderSkipsAreUnseen}
use Rattle.outcomes.specs.declared.refusals.Refusal.{Refusal}
use Rattle.outcomes.specs.declared.refusals.Refusal.TheVariants as refusal
use Rattle.outcomes.specs.Inputs.{plan_alone, scripted_of, wants_of}
use Rattle.outcomes.specs.PlanWords.{plan_words}
use Rattle.outcomes.specs.Layered.{slotted_of, agreed_of, firing_of, logging_of}

-- lines with one more, after the first n
abbrev pub put_in : (n : ℕ) → (line : List ℕ) → List (List ℕ) → List (List ℕ)
put_in n line lines = take n lines ++ line ∷ drop n lines

-- so the text of an input's lines
abbrev pub with_line : (n : ℕ) → (line : List ℕ) → (input : List ℕ) → List ℕ
with_line n line input = text_of (put_in n line (lines_of input))

-- the refusal of the same line, by the number that it has then
abbrev pub moved : (n : ℕ) → Refusal → Refusal
moved n (refusal.Plan line premise) = refusal.Plan (further n line) premise
moved n (refusal.Part part line rule) = refusal.Part part (further n line) rule
moved n other = other

abbrev pub moved_in : {X : Type 0} → (n : ℕ) → Result X Refusal → Result X Refusal
moved_in n (Ok value) = Ok value
moved_in n (Err refused) = Err (moved n refused)

-- A skipped line may stand anywhere: an input is read as the same, and a refusal is that of the
-- same line, whose number is one more if it stands after the new one. So it is the number of the
-- line that fails: put in just before it, the new line makes it one more, and just after it, none.
abbrev pub SkipsAreUnseen : {X : Type 0} → (List ℕ → Result X Refusal) → Type 0
SkipsAreUnseen read = (input : List ℕ) (n : ℕ) → n ≤ length (lines_of input) → (line : List ℕ)
    → is_skipped line ≡ true → length line ≤ 4096 → is_one_line line ≡ true
    → read (with_line n line input) ≡ moved_in n (read input)

-- So it is of plans, of wants, and of scripts, alone or after each part; and of headers of `node`,
-- whatever follows them, which are read and answered as without it.
pub record SkippedLinesAreUnseen : Type 0 where
  pub plans : SkipsAreUnseen plan_alone
  pub wants : SkipsAreUnseen wants_of
  pub scripts : SkipsAreUnseen scripted_of
  pub slots : SkipsAreUnseen slotted_of
  pub consensus : SkipsAreUnseen agreed_of
  pub fire : SkipsAreUnseen firing_of
  pub log : SkipsAreUnseen logging_of
  pub headers : HeaderSkipsAreUnseen plan_words
