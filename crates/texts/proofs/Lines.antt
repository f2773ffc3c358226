-- The first line of a text, and the first word of a line.
use Rattle.std.proofs.Common.{◌≡◌, ℕ, suc, ◌+◌, ◌<◌, ◌≤◌, Bool, true, false, cond, eqb, ltb, not}
use Rattle.std.proofs.Common.{Some, None, List, [], ◌∷◌, length, take, drop, refl, ap, ◌∙◌, arith}
use Rattle.std.specs.List.{position, position_or_len, before_first, after_first, onto_first}
use Rattle.std.proofs.lemmas.Bool.{ltb-false, ltb-true}
use Rattle.std.proofs.lemmas.List.{take_all, drop_all}
use Rattle.std.proofs.lemmas.List.Sums.{fails_before_first}
use Rattle.std.proofs.lemmas.List.Splits.{slice_split_first, slice_split_none}
use Rattle.texts.specs.Lines.{lines_of, words_of}

-- the first line of a text of one byte
last_line : (newline : Bool) (b : ℕ)
    → cond newline ([] ∷ []) ((b ∷ []) ∷ [])
    ≡ take (cond (not newline) 1 0) (b ∷ []) ∷ lines_of (drop (cond (not newline) 1 0 + 1) (b ∷ []))
last_line true b = refl
last_line false b = refl

-- the first line of a text with one more byte
longer_line : (newline : Bool) (b : ℕ) (bs : List ℕ) (n : ℕ)
    → lines_of bs ≡ take n bs ∷ lines_of (drop (n + 1) bs)
    → cond newline ([] ∷ lines_of bs) (onto_first b (lines_of bs))
    ≡ take (cond (not newline) (1 + n) 0) (b ∷ bs) ∷ lines_of
    (drop (cond (not newline) (1 + n) 0 + 1) (b ∷ bs))
longer_line true b bs n e = refl
longer_line false b bs n e = let k : 1 + n + 1 ≡ suc (n + 1) = omega arith in
    let m : 1 + n ≡ suc n = omega arith in rw (k, m) (ap (onto_first b) e)

-- a text is its first line, and the lines after the first newline
pub lines_of_first : (bs : List ℕ) → 0 < length bs
    → lines_of bs ≡ before_first (λ b. eqb b 10) bs ∷ lines_of (after_first (λ b. eqb b 10) bs)
lines_of_first [] some = absurd (omega arith)
lines_of_first (b ∷ []) some = last_line (eqb b 10) b
lines_of_first (b ∷ c ∷ bs) some =
    longer_line (eqb b 10) b (c ∷ bs) (position_or_len (λ b. eqb b 10) (c ∷ bs))
    (lines_of_first (c ∷ bs) (omega arith))

-- a search that finds by a test answers its place
found_by : (b : Bool) (n i : ℕ) → cond b (Some n) None ≡ Some i → n ≡ i
found_by true n i e = cc
found_by false n i e = absurd cc

-- the place that a search found
pub found : (p : ℕ → Bool) (xs : List ℕ) (i : ℕ) → position p xs ≡ Some i → position_or_len p xs ≡ i
found p xs i e = found_by (ltb (position_or_len p xs) (length xs)) (position_or_len p xs) i e

-- a search that finds passed its test
found_in_by : (b : Bool) (n i : ℕ) → cond b (Some n) None ≡ Some i → b ≡ true
found_in_by true n i e = refl
found_in_by false n i e = absurd cc

-- the place that a search found lies within
pub found_in : (p : ℕ → Bool) (xs : List ℕ) (i : ℕ) → position p xs ≡ Some i
    → position_or_len p xs < length xs
found_in p xs i e = ltb-true _ _
    (found_in_by (ltb (position_or_len p xs) (length xs)) (position_or_len p xs) i e)

-- a search that finds nothing failed its test
missing_by : (b : Bool) (n : ℕ) → cond b (Some n) None ≡ None → b ≡ false
missing_by true n e = absurd cc
missing_by false n e = refl

-- a search that found nothing ran to the end
pub missing : (p : ℕ → Bool) (xs : List ℕ) → position p xs ≡ None → length xs ≤ position_or_len p xs
missing p xs e = ltb-false _ _
    (missing_by (ltb (position_or_len p xs) (length xs)) (position_or_len p xs) e)

-- the line that ends at the newline at i
pub line_at : (text : List ℕ) (i : ℕ) → 0 < length text → position (λ b. eqb b 10) text ≡ Some i
    → lines_of text ≡ take i text ∷ lines_of (drop (i + 1) text)
line_at text i some e = rw (← found (λ b. eqb b 10) text i e) (lines_of_first text some)

-- the last line, which has no newline
pub line_to_end : (text : List ℕ) → 0 < length text → position (λ b. eqb b 10) text ≡ None
    → lines_of text ≡ text ∷ []
line_to_end text some e =
    let past = missing (λ b. eqb b 10) text e in
    lines_of_first text some ∙ rw (
      take_all (position_or_len (λ b. eqb b 10) text) text past,
      drop_all
          (position_or_len (λ b. eqb b 10) text + 1) text (omega arith),
    ) refl

-- the word that ends at the space at i
pub word_at : (line : List ℕ) (i : ℕ) → position (λ b. eqb b 32) line ≡ Some i
    → words_of line ≡ take i line ∷ words_of (drop (i + 1) line)
word_at line i e = rw (← found (λ b. eqb b 32) line i e)
    (slice_split_first (λ b. eqb b 32) line 0 (found_in (λ b. eqb b 32) line i e))

-- the last word, after which no space stands
pub word_to_end : (line : List ℕ) → position (λ b. eqb b 32) line ≡ None → words_of line ≡ line ∷ []
word_to_end line e = slice_split_none (λ b. eqb b 32) line
    (λ k d lt. fails_before_first (λ b. eqb b 32) line k d
    (omega (arith, missing (λ b. eqb b 32) line e)))
