-- Reading the lines of a script one after another, at the beginning of any text.
use Rattle.std.proofs.Common.{◌≡◌, ℕ, ◌+◌, ◌≤◌, Bool, true, false, List, [], ◌∷◌, ◌++◌, length, map}
use Rattle.std.proofs.Common.{Option, Some, Result, Ok, refl, ap, ◌∙◌, append_assoc, arith}
use Rattle.std.specs.Prelude.{◌==◌, if◌then◌else◌, codes}
use Rattle.std.proofs.lemmas.List.{length-append, map-append}
use Rattle.std.proofs.lemmas.List.Concat.{flat_map-append}
use Rattle.texts.specs.Lines.{lines_of}
use Rattle.texts.specs.Words.{joined, ended, text_of}
use Rattle.texts.specs.Parts.{goes, refuses, is_skipped, with_skips, Found, At}
use Rattle.texts.specs.Parts.{part_from}
use Rattle.texts.proofs.Printed.{ArePlain, spaced_length, words_joined, counts, goes_behind}
use Rattle.texts.proofs.Printed.{ends_there}
use Rattle.sync_types.specs.declared.answers.Rule.{Rule}
use Rattle.sync_types.specs.declared.answers.Rule.TheVariants.{Form}
use Rattle.adversary_script.specs.declared.kinds.Kind.{Kind}
use Rattle.adversary_script.specs.declared.kinds.Kind.TheVariants as kind
use Rattle.adversary_script.specs.Kinds.{kind_of, may_follow}
use Rattle.adversary_script.specs.Scripts.{Script}
use Rattle.adversary_script.specs.Steps.{line_step}
use Rattle.adversary_script.specs.ScriptPart.{ScriptSoFar, passed, read_as, script_step}
use Rattle.adversary_script.specs.ScriptTexts.{end_line}

-- how the part is read on
abbrev pub read_on : ScriptSoFar → (taken number : ℕ) → List ℕ → Result (Found Script) (At Rule)
read_on s taken number text =
    part_from (with_skips script_step Form) Form s taken number (lines_of text)

abbrev pub Lines : Type 0
Lines = List (List (List ℕ))

-- these lines lead from one state to the other
abbrev pub Lead : ScriptSoFar → Lines → ScriptSoFar → Type 0
Lead s lines t = (taken number : ℕ) (rest : List ℕ)
    → read_on s taken number (text_of (map joined lines) ++ rest)
    ≡ read_on t (taken + length lines) (number + length lines) rest

-- and these end the part with a script
abbrev pub End : ScriptSoFar → Lines → Script → Type 0
End s lines script = (taken number : ℕ) (rest : List ℕ)
    → read_on s taken number (text_of (map joined lines) ++ rest)
    ≡ Ok (record { value = script; taken = taken + length lines; behind = lines_of rest })

-- a line that may be printed says a kind, and these words after it
pub record IsLineOf (k : Kind) (line behind : List (List ℕ)) : Type 0 where
  pub plain : ArePlain line
  pub short : spaced_length line ≤ 4096
  pub counted : is_skipped (joined line) ≡ false
  pub kind : kind_of line ≡ Some (k, behind)

-- a line counts that does not begin with `#`
pub line_counts : (b : ℕ) (word : List ℕ) (words : List (List ℕ)) → (b == 35) ≡ false
    → is_skipped (joined ((b ∷ word) ∷ words)) ≡ false
line_counts b word [] other = counts (joined ((b ∷ word) ∷ [])) (omega arith) other
line_counts b word (next ∷ words) other =
    counts (joined ((b ∷ word) ∷ next ∷ words)) (omega arith) other

-- ---- one after another

counted : (s : ScriptSoFar) (taken number a b : ℕ) (rest : List ℕ) → taken ≡ a → number ≡ b
    → read_on s taken number rest ≡ read_on s a b rest
counted s taken number a b rest p q =
    ap (λ n. read_on s n number rest) p ∙ ap (λ n. read_on s a n rest) q

text_parts : (a b : Lines) (rest : List ℕ)
    → text_of (map joined (a ++ b)) ++ rest
    ≡ text_of (map joined a) ++ (text_of (map joined b) ++ rest)
text_parts a b rest =
    ap (λ lines. text_of lines ++ rest) (map-append joined a b)
    ∙ ap (λ text. text ++ rest) (flat_map-append ended (map joined a) (map joined b))
    ∙ append_assoc (text_of (map joined a)) (text_of (map joined b)) rest

pub lead_none : (s : ScriptSoFar) → Lead s [] s
lead_none s taken number rest =
    counted s taken number (taken + 0) (number + 0) rest (omega arith) (omega arith)

pub lead_then : (s t u : ScriptSoFar) (a b : Lines) → Lead s a t → Lead t b u → Lead s (a ++ b) u
lead_then s t u a b first next taken number rest =
    ap (read_on s taken number) (text_parts a b rest)
    ∙ first taken number (text_of (map joined b) ++ rest)
    ∙ next (taken + length a) (number + length a) rest
    ∙ counted u (taken + length a + length b) (number + length a + length b)
    (taken + length (a ++ b)) (number + length (a ++ b)) rest
    (omega (arith, length-append a b)) (omega (arith, length-append a b))

pub lead_end : (s t : ScriptSoFar) (script : Script) (a b : Lines) → Lead s a t → End t b script
    → End s (a ++ b) script
lead_end s t script a b first next taken number rest =
    let count : taken + length a + length b ≡ taken + length (a ++ b) =
    omega (arith, length-append a b) in
    ap (read_on s taken number) (text_parts a b rest)
    ∙ first taken number (text_of (map joined b) ++ rest)
    ∙ next (taken + length a) (number + length a) rest
    ∙ rw count refl

-- one line before more
line_more : (line rest : List ℕ) → text_of (line ∷ []) ++ rest ≡ line ++ 10 ∷ rest
line_more line rest = simp append_assoc

-- ---- by the kind of the last line, of a part of which f ids at most are faulty

module _ (f : ℕ) where
  abbrev pub at : Option Kind → Script → ScriptSoFar
  at last s = record { faults = f; last = last; script = s }

  steps : (last : Option Kind) (s t : Script) (k : Kind) (word : List ℕ)
      (words behind : List (List ℕ)) → IsLineOf k (word ∷ words) behind
      → may_follow last k ≡ true → line_step f k s behind ≡ Ok t
      → script_step (at last s) (joined (word ∷ words)) ≡ passed (at last s) k (Ok t)
  steps last s t k word words behind is may step =
      ap (λ (ws : List (List ℕ)). read_as (at last s) (kind_of ws))
      (words_joined word words is.plain)
      ∙ ap (read_as (at last s)) is.kind
      ∙ ap (λ (b : Bool).
      if b then passed (at last s) k (line_step f k s behind) else refuses Form) may
      ∙ ap (passed (at last s) k) step

  -- a line leads on
  pub lead_line : (last : Option Kind) (s t : Script) (k : Kind) (line behind : List (List ℕ))
      → IsLineOf k line behind → may_follow last k ≡ true → line_step f k s behind ≡ Ok t
      → passed (at last s) k (Ok t) ≡ goes (at (Some k) t)
      → Lead (at last s) (line ∷ []) (at (Some k) t)
  lead_line last s t k [] behind is may step on taken number rest =
      let none = is.kind in absurd cc
  lead_line last s t k (word ∷ words) behind is may step on taken number rest =
      ap (read_on (at last s) taken number) (line_more (joined (word ∷ words)) rest)
      ∙ goes_behind script_step Form word words rest is.plain is.short is.counted (at last s)
      taken number (at (Some k) t) (steps last s t k word words behind is may step ∙ on)

  -- the last line ends the part
  pub end_here : (s : Script) → End (at (Some kind.Show) s) (end_line ∷ []) s
  end_here s taken number rest =
      ap (read_on (at (Some kind.Show) s) taken number) (line_more (joined end_line) rest)
      ∙ ends_there script_step Form (codes "end") [] rest
      (record { some = omega arith; above = refl }, tt) (omega arith) refl
      (at (Some kind.Show) s) taken number s refl

  -- these lines lead to that script, with a kind of the last line that is so
  pub record GoesTo (P : Option Kind → Type 0) (s : ScriptSoFar) (lines : Lines) (t : Script)
      : Type 0 where
    pub last : Option Kind
    pub so : P last
    pub lead : Lead s lines (at last t)

  pub goes_then : (P Q : Option Kind → Type 0) (s : ScriptSoFar) (t u : Script) (a b : Lines)
      → GoesTo P s a t → ((last : Option Kind) → P last → GoesTo Q (at last t) b u)
      → GoesTo Q s (a ++ b) u
  goes_then P Q s t u a b first next =
      let onward = next first.last first.so in
      record {
        last = onward.last;
        so = onward.so;
        lead = lead_then s (at first.last t) (at onward.last u) a b first.lead onward.lead;
      }

  pub goes_end : (P : Option Kind → Type 0) (s : ScriptSoFar) (t u : Script) (a b : Lines)
      → GoesTo P s a t → ((last : Option Kind) → P last → End (at last t) b u)
      → End s (a ++ b) u
  goes_end P s t u a b first next =
      lead_end s (at first.last t) u a b first.lead (next first.last first.so)
