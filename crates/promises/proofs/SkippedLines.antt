-- The end of an input sees nothing of a skipped line, nor does a part of it, nor what is read after
-- that part.
use Rattle.std.proofs.Common.{◌≡◌, ℕ, ◌+◌, ◌<◌, ◌≤◌, Bool, true, false, List, [], ◌∷◌, ◌++◌}
use Rattle.std.proofs.Common.{length, Option, Some, None, Result, Ok, Err, refl, sym, ap, ◌∙◌}
use Rattle.std.proofs.Common.{arith}
use Rattle.std.specs.Prelude.{◌||◌, not, nat_lt, if◌then◌else◌}
use Rattle.std.proofs.lemmas.Bool.{le-ltb}
use Rattle.texts.specs.Parts.{Next, is_skipped, with_skips, At}
use Rattle.plan_reader.specs.Skipped.{first_unskipped}
use Rattle.node_words.proofs.SkippedLines as any
use Rattle.node_words.proofs.SkippedLines.{refused_later, refused_before, then_next}
use Rattle.outcomes.specs.declared.refusals.Refusal.{Refusal}
use Rattle.promises.specs.Skips.{moved_in}

-- what is read of lines, of which the first has a number
abbrev pub Reads : Type 0 → Type 0
Reads X = (number : ℕ) → List (List ℕ) → Result X Refusal

-- a refusal names its line
abbrev pub Moves : {X R : Type 0} → (At R → Result X Refusal) → Type 0
Moves refuse = any.Moves moved_in refuse

abbrev pub IsBlind : {X : Type 0} → (line : List ℕ) → Reads X → Type 0
IsBlind line read = any.IsBlind moved_in line read

-- what reads as one that is blind is so
pub blind_as : {X : Type 0} (line : List ℕ) (read other : Reads X)
    → ((number : ℕ) (lines : List (List ℕ)) → read number lines ≡ other number lines)
    → IsBlind line other → IsBlind line read
blind_as line read other same is = record {
  later = λ k number lines lt.
      same (number + 1) lines
      ∙ (is.later k number lines lt ∙ ap (moved_in k) (sym (same number lines)));
  among = λ before lines k number at.
      same number (before ++ line ∷ lines)
      ∙ (is.among before lines k number at
      ∙ ap (moved_in k) (sym (same number (before ++ lines))));
}

-- a value, unless a line that counts follows
module _ {X R : Type 0} (refuse : At R → Result X Refusal) (rule : R) (value : X) where
  abbrev pub by_first : Option ℕ → Result X Refusal
  by_first None = Ok value
  by_first (Some number) = refuse (record { line = number; rule = rule })

  abbrev pub unless_more : Reads X
  unless_more number lines = by_first (first_unskipped number lines)

module _ (line : List ℕ) (skipped : is_skipped line ≡ true) (short : length line ≤ 4096) where
  -- ---- the end

  -- this line counts for nothing
  passes : (number : ℕ) (lines : List (List ℕ))
      → first_unskipped number (line ∷ lines) ≡ first_unskipped (number + 1) lines
  passes number lines = rw (le-ltb 4096 (length line) short, skipped) refl

  module _ {X R : Type 0} (refuse : At R → Result X Refusal) (moves : Moves refuse) (rule : R)
      (value : X) where
    abbrev ends_by : Option ℕ → Result X Refusal
    ends_by = by_first refuse rule value

    abbrev at_end : Reads X
    at_end = unless_more refuse rule value

    -- a line that counts, or the lines after it
    abbrev counted : Bool → ℕ → Option ℕ → Option ℕ
    counted counts number rest = if counts then Some number else rest

    later_by : (counts : Bool) (k number : ℕ) (one other : Option ℕ) → k < number
        → ends_by one ≡ moved_in k (ends_by other)
        → ends_by (counted counts (number + 1) one)
        ≡ moved_in k (ends_by (counted counts number other))
    later_by true k number one other lt rest = refused_later moved_in refuse moves number rule k lt
    later_by false k number one other lt rest = rest

    among_by : (counts : Bool) (k number : ℕ) (one other : Option ℕ) → number ≤ k
        → ends_by one ≡ moved_in k (ends_by other)
        → ends_by (counted counts number one)
        ≡ moved_in k (ends_by (counted counts number other))
    among_by true k number one other le rest =
        refused_before moved_in refuse moves number rule k le
    among_by false k number one other le rest = rest

    end_later : (lines : List (List ℕ)) (k number : ℕ) → k < number
        → at_end (number + 1) lines ≡ moved_in k (at_end number lines)
    end_later [] k number lt = refl
    end_later (first ∷ lines) k number lt =
        later_by (nat_lt 4096 (length first) || not (is_skipped first)) k number
        (first_unskipped (number + 1 + 1) lines) (first_unskipped (number + 1) lines) lt
        (end_later lines k (number + 1) (omega (arith, lt)))

    end_among : (before lines : List (List ℕ)) (k number : ℕ) → k + 1 ≡ number + length before
        → at_end number (before ++ line ∷ lines) ≡ moved_in k (at_end number (before ++ lines))
    end_among [] lines k number at =
        ap ends_by (passes number lines) ∙ end_later lines k number (omega (arith, at))
    end_among (first ∷ before) lines k number at =
        among_by (nat_lt 4096 (length first) || not (is_skipped first)) k number
        (first_unskipped (number + 1) (before ++ line ∷ lines))
        (first_unskipped (number + 1) (before ++ lines)) (omega (arith, at))
        (end_among before lines k (number + 1) (omega (arith, at)))

    pub end_is_blind : IsBlind line at_end
    end_is_blind = record {
      later = λ k number lines lt. end_later lines k number (omega (arith, lt));
      among = λ before lines k number at. end_among before lines k number at;
    }

  -- ---- a part, and what is read after it

  pub part_is_blind : {S V R X : Type 0} (step : S → List ℕ → Next S V R) (form : R)
      (refuse : At R → Result X Refusal) → Moves refuse → (next : V → Reads X)
      → ((v : V) → IsBlind line (next v)) → (s : S)
      → IsBlind line (then_next refuse next (with_skips step form) form s)
  part_is_blind step form refuse moves next blind s =
      any.part_is_blind moved_in line (with_skips step form) form
      (λ t. rw (le-ltb 4096 (length line) short, skipped) refl) refuse moves next blind s
