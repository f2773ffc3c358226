-- The lines and words of a text that was printed as words.
use Rattle.std.proofs.Common.{◌≡◌, ℕ, ◌+◌, ◌^◌, ◌<◌, ◌≤◌, Bool, true, false, List, [], ◌∷◌, ◌++◌}
use Rattle.std.proofs.Common.{length, length-append, refl, ap, ◌∙◌, arith, Ok}
use Rattle.std.specs.Prelude.{decimal, nat_lt, nat_le, ◌==◌, if◌then◌else◌, slice_index, ⊤}
use Rattle.std.specs.List.{All, list_all, list_any, join_with_byte}
use Rattle.std.specs.Char.{is_ascii_digit}
use Rattle.std.proofs.lemmas.Bool.{and_parts}
use Rattle.std.proofs.lemmas.Bool.Decides.{nat_tests}
use Rattle.std.proofs.lemmas.List.Splits.{slice_split_at, slice_split_none}
use Rattle.std.proofs.lemmas.List.Sums.{AllPass-from_list_all}
use Rattle.std.proofs.lemmas.List.Folds.{list_all-append}
use Rattle.std.proofs.lemmas.Fmt.{digits_decimal, decimal_nonempty}
use Rattle.texts.specs.Lines.{lines_of, words_of, has_empty_word, is_well_parted}
use Rattle.texts.specs.Parts.{Next, goes, ends, refuses, is_skipped, with_skips, part_from}
use Rattle.texts.proofs.Numbers.{own}

-- words, parted by single spaces
abbrev pub joined : List (List ℕ) → List ℕ
joined words = join_with_byte 32 words

-- a word that may be printed: it is not empty, and each byte is above a space
pub record IsPlain (word : List ℕ) : Type 0 where
  pub some : 0 < length word
  pub above : list_all (nat_lt 32) word ≡ true

-- each of the words is one
abbrev pub ArePlain : List (List ℕ) → Type 0
ArePlain [] = ⊤
ArePlain (word ∷ words) = IsPlain word × ArePlain words

-- the bytes that the words take, each with one byte after it
abbrev pub spaced_length : List (List ℕ) → ℕ
spaced_length [] = 0
spaced_length (word ∷ words) = length word + 1 + spaced_length words

weaker : (p q : ℕ → Bool) → ((b : ℕ) → p b ≡ true → q b ≡ true) → (bytes : List ℕ)
    → list_all p bytes ≡ true → list_all q bytes ≡ true
weaker p q each [] h = refl
weaker p q each (b ∷ bytes) h =
    let parts = and_parts (p b) (list_all p bytes) h in
    rw (each b parts.0, weaker p q each bytes parts.1) refl

-- a digit is above a space
digit_above : (b : ℕ) → is_ascii_digit b ≡ true → nat_lt 32 b ≡ true
digit_above b h = grind (arith, nat_tests)

-- the word of a number may be printed
pub decimal_is_plain : (n : ℕ) → n < 2 ^ 64 → IsPlain (decimal n)
decimal_is_plain n fits = record {
  some = decimal_nonempty n fits;
  above = weaker is_ascii_digit (nat_lt 32) digit_above (decimal n) (digits_decimal own n fits);
}

is_no_space : (b : ℕ) → nat_lt 32 b ≡ true → (b == 32) ≡ false
is_no_space b h = grind (arith, nat_tests)

no_space : (word : List ℕ) → IsPlain word → All (λ b. (b == 32) ≡ false) word
no_space word plain k d lt =
    is_no_space _ (AllPass-from_list_all (nat_lt 32) word plain.above k d lt)

-- the words of joined words
pub words_joined : (word : List ℕ) (words : List (List ℕ)) → ArePlain (word ∷ words)
    → words_of (joined (word ∷ words)) ≡ word ∷ words
words_joined word [] plain = slice_split_none (λ b. b == 32) word (no_space word plain.0)
words_joined word (next ∷ words) plain =
    let rest = joined (next ∷ words) in
    slice_split_at (λ b. b == 32) word 32 rest (no_space word plain.0) refl
    ∙ ap (λ ws. word ∷ ws) (words_joined next words plain.1)

-- no byte of a line is below a space
abbrev IsLine : List ℕ → Type 0
IsLine line = list_all (nat_le 32) line ≡ true

at_least : (b : ℕ) → nat_lt 32 b ≡ true → nat_le 32 b ≡ true
at_least b h = grind (arith, nat_tests)

word_is_line : (word : List ℕ) → IsPlain word → IsLine word
word_is_line word plain = weaker (nat_lt 32) (nat_le 32) at_least word plain.above

joined_is_line : (words : List (List ℕ)) → ArePlain words → IsLine (joined words)
joined_is_line [] plain = refl
joined_is_line (word ∷ []) plain = word_is_line word plain.0
joined_is_line (word ∷ next ∷ words) plain =
    list_all-append (nat_le 32) word (32 ∷ joined (next ∷ words))
    ∙ rw (word_is_line word plain.0, joined_is_line (next ∷ words) plain.1) refl

is_no_newline : (b : ℕ) → nat_le 32 b ≡ true → (b == 10) ≡ false
is_no_newline b h = grind (arith, nat_tests)

is_no_return : (b : ℕ) → nat_le 32 b ≡ true → (b == 13) ≡ false
is_no_return b h = grind (arith, nat_tests)

first_line : (line rest : List ℕ) → IsLine line
    → lines_of (line ++ 10 ∷ rest) ≡ line ∷ lines_of rest
first_line [] rest h = refl
first_line (b ∷ line) rest h =
    let parts = and_parts (nat_le 32 b) (list_all (nat_le 32) line) h in
    rw (is_no_newline b parts.0, first_line line rest parts.1) refl

no_return : (line : List ℕ) → IsLine line → list_any (λ b. b == 13) line ≡ false
no_return [] h = refl
no_return (b ∷ line) h =
    let parts = and_parts (nat_le 32 b) (list_all (nat_le 32) line) h in
    rw (is_no_return b parts.0, no_return line parts.1) refl

-- joined words are the first line, if a newline stands after them
pub line_joined : (words : List (List ℕ)) (rest : List ℕ) → ArePlain words
    → lines_of (joined words ++ 10 ∷ rest) ≡ joined words ∷ lines_of rest
line_joined words rest plain = first_line (joined words) rest (joined_is_line words plain)

none_empty : (words : List (List ℕ)) → ArePlain words → has_empty_word words ≡ false
none_empty [] plain = refl
none_empty (word ∷ words) plain =
    let some = plain.0.some in
    let first : (length word == 0) ≡ false = grind (arith, nat_tests) in
    rw (first, none_empty words plain.1) refl

-- joined words are well parted
pub joined_well_parted : (word : List ℕ) (words : List (List ℕ)) → ArePlain (word ∷ words)
    → is_well_parted (joined (word ∷ words)) ≡ true
joined_well_parted word words plain =
    let line = joined_is_line (word ∷ words) plain in
    rw (
      words_joined word words plain,
      none_empty (word ∷ words) plain,
      no_return (joined (word ∷ words)) line,
    ) refl

-- joined words are no longer than that
pub length_joined : (words : List (List ℕ)) → length (joined words) ≤ spaced_length words
length_joined [] = omega arith
length_joined (word ∷ []) = omega arith
length_joined (word ∷ next ∷ words) =
    let rest = joined (next ∷ words) in
    omega (arith, length-append word (32 ∷ rest), length_joined (next ∷ words))

-- a line that begins with a byte other than `#` counts
pub counts : (line : List ℕ) → 0 < length line → (slice_index line 0 == 35) ≡ false
    → is_skipped line ≡ false
counts line some other =
    let more : (length line == 0) ≡ false = grind (arith, nat_tests) in rw (more, other) refl

chosen : {X : Type 0} (long skipped parted : Bool) (a b c : X)
    → long ≡ false → skipped ≡ false → parted ≡ true
    → (if long then a else if skipped then b else if parted then c else a) ≡ c
chosen long skipped parted a b c p q r = rw (p, q, r) refl

module _ {S V R : Type 0} (step : S → List ℕ → Next S V R) (form : R) (s : S) where
  -- a reader steps at joined words, if they make no line that is skipped
  steps_at_joined : (word : List ℕ) (words : List (List ℕ)) → ArePlain (word ∷ words)
      → spaced_length (word ∷ words) ≤ 4096 → is_skipped (joined (word ∷ words)) ≡ false
      → with_skips step form s (joined (word ∷ words)) ≡ step s (joined (word ∷ words))
  steps_at_joined word words plain short unskipped =
      let line = joined (word ∷ words) in
      let within = length_joined (word ∷ words) in
      let fits : nat_lt 4096 (length line) ≡ false = grind (arith, nat_tests) in
      chosen _ _ _ (refuses form) (goes s) (step s line)
      fits unskipped (joined_well_parted word words plain)

  module _ (line : List ℕ) (lines : List (List ℕ)) (taken number : ℕ) where
    step_goes : (t : S) → step s line ≡ goes t
        → part_from step form s taken number (line ∷ lines)
        ≡ part_from step form t (taken + 1) (number + 1) lines
    step_goes t is = rw (part_from, is) refl

    step_ends : (v : V) → step s line ≡ ends v
        → part_from step form s taken number (line ∷ lines)
        ≡ Ok (record { value = v; taken = taken + 1; behind = lines })
    step_ends v is = rw (part_from, is) refl

-- Reading a line of joined words, with a newline and any text after it. The words may be printed,
-- are few, and make no line that is skipped.
module _ {S V R : Type 0} (step : S → List ℕ → Next S V R) (form : R)
    (word : List ℕ) (words : List (List ℕ)) (rest : List ℕ)
    (plain : ArePlain (word ∷ words)) (short : spaced_length (word ∷ words) ≤ 4096)
    (unskipped : is_skipped (joined (word ∷ words)) ≡ false)
    (s : S) (taken number : ℕ) where
  abbrev line : List ℕ
  line = joined (word ∷ words)

  -- it goes on after the line, if the step goes on
  pub goes_behind : (t : S) → step s (joined (word ∷ words)) ≡ goes t
      → part_from (with_skips step form) form s taken number
      (lines_of (joined (word ∷ words) ++ 10 ∷ rest))
      ≡ part_from (with_skips step form) form t (taken + 1) (number + 1) (lines_of rest)
  goes_behind t is =
      let at = steps_at_joined step form s word words plain short unskipped in
      ap (part_from (with_skips step form) form s taken number)
      (line_joined (word ∷ words) rest plain)
      ∙ step_goes (with_skips step form) form s line (lines_of rest) taken number t (at ∙ is)

  -- and ends with it, if the step ends
  pub ends_there : (v : V) → step s (joined (word ∷ words)) ≡ ends v
      → part_from (with_skips step form) form s taken number
      (lines_of (joined (word ∷ words) ++ 10 ∷ rest))
      ≡ Ok (record { value = v; taken = taken + 1; behind = lines_of rest })
  ends_there v is =
      let at = steps_at_joined step form s word words plain short unskipped in
      ap (part_from (with_skips step form) form s taken number)
      (line_joined (word ∷ words) rest plain)
      ∙ step_ends (with_skips step form) form s line (lines_of rest) taken number v (at ∙ is)
