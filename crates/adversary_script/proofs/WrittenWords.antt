-- The words of a script's text: numbers, ids, names and hex digits. They may be printed, are short,
-- and are read as what they write.
use Rattle.std.proofs.Common.{◌≡◌, ℕ, zero, suc, ◌*◌, ◌/◌, ◌%◌, ◌^◌, ◌<◌, ◌≤◌, Bool, true}
use Rattle.std.proofs.Common.{false}
use Rattle.std.proofs.Common.{List, [], ◌∷◌, length, map, Some, None}
use Rattle.std.proofs.Common.{refl, sym, ap, ◌∙◌, arith, All, ◌&&◌, nat_le}
use Rattle.std.specs.Prelude.{decimal, codes, nat_lt, ◌==◌, if◌then◌else◌, slice_index}
use Rattle.std.specs.List.{list_all}
use Rattle.std.specs.List.Sorted.{IsStrictlyIncreasing}
use Rattle.std.specs.Char.{is_ascii_digit}
use Rattle.std.specs.Str.{bytes_eq}
use Rattle.std.specs.Str.Parse.{digits_value}
use Rattle.std.proofs.lemmas.Bool.{and_parts, and_from, lt-ltb, leb-true, eq-eqb, eqb-true}
use Rattle.std.proofs.lemmas.Bool.{false_from_ne_true, true≢false}
use Rattle.std.proofs.lemmas.Bool.Decides.{nat_tests}
use Rattle.std.proofs.lemmas.Slice.Eq.{bytes_eq-Decides}
use Rattle.std.proofs.lemmas.List.Elements.{All-head, All-tail, All-weaker}
use Rattle.std.proofs.lemmas.List.Sums.{AllPass-from_list_all, list_all-from_AllPass}
use Rattle.std.proofs.lemmas.Fmt.{length-decimal-le, digits_decimal}
use Rattle.hex.specs.Hex.{encode_lower, encode_with, lower_digits, decode_of}
use Rattle.hex.proofs.HexLemmas.{length-encode_with, decode_of-encode_lower}
use Rattle.texts.specs.Numbers.{number_of}
use Rattle.texts.proofs.Numbers.{own}
use Rattle.texts.proofs.NumberLines.{AreShort, are_short}
use Rattle.texts.proofs.LineWords.{all_weaker}
use Rattle.texts.proofs.Printed.{IsPlain, spaced_length}
use Rattle.sync_types.specs.States.{State}
use Rattle.state_codec.specs.Shapes.{Fields, IsFields, bytes_in}
use Rattle.state_codec.specs.Ranges.{InRange}
use Rattle.state_codec.specs.Texts.{is_lower_digit, written_text, read_text}
use Rattle.state_codec.proofs.Digits.{text_is_taken, text_reads_back}
use Rattle.adversary_script.specs.WordTests.{is_letter, is_name, are_below, is_rising}
use Rattle.adversary_script.specs.LieSteps.{state_of_digits}
use Rattle.adversary_script.specs.Steps.{decoded_bytes, key_of_digits}
use Rattle.adversary_script.specs.Writable.{IsKey}
use Rattle.adversary_script.proofs.EraLists.{tail_rises}

-- ---- numbers

-- a number is no name
digit_word : (n : ℕ) → n < 10 ^ 15 → list_all is_ascii_digit (decimal n) ≡ true
digit_word n lt = digits_decimal own n (omega arith)

pub number_is_not_all : (n : ℕ) → n < 10 ^ 15 → bytes_eq (decimal n) (codes "all") ≡ false
number_is_not_all n lt =
    false_from_ne_true (bytes_eq (decimal n) (codes "all")) (λ same.
    let is : decimal n ≡ codes "all" = (bytes_eq-Decides (decimal n) (codes "all")).0 same in
    let none : list_all is_ascii_digit (decimal n) ≡ false = ap (list_all is_ascii_digit) is in
    true≢false (sym (digit_word n lt) ∙ none))

-- ---- ids

module _ (n : ℕ) (few : n ≤ 256) where
  pub ids_small : (ids : List ℕ) → All (λ id. id < n) ids → AreShort ids
  ids_small ids below =
      are_short ids
      (All-weaker (λ id. id < n) (λ id. id < 10 ^ 15) (λ id lt. omega (arith, few, lt)) ids below)

  pub id_short : (id : ℕ) → id < n → length (decimal id) ≤ 3
  id_short id lt = length-decimal-le 3 id (omega arith) (omega arith) (omega arith)

  pub ids_short : (ids : List ℕ) → All (λ id. id < n) ids
      → spaced_length (map decimal ids) ≤ 4 * length ids
  ids_short [] below = omega arith
  ids_short (id ∷ ids) below = omega (
    arith,
    id_short id (All-head (λ id. id < n) id ids below),
    ids_short ids (All-tail (λ id. id < n) id ids below),
  )

pub ids_below : (n : ℕ) (ids : List ℕ) → All (λ id. id < n) ids → are_below n ids ≡ true
ids_below n ids below = list_all-from_AllPass (λ id. nat_lt id n) ids
    (All-weaker (λ id. id < n) (λ id. nat_lt id n ≡ true) (λ id lt. lt-ltb id n lt) ids below)

pub ids_rise : (ids : List ℕ) → IsStrictlyIncreasing ids → is_rising ids ≡ true
ids_rise [] rises = refl
ids_rise (a ∷ []) rises = refl
ids_rise (a ∷ b ∷ ids) rises =
    and_from (nat_lt a b) (is_rising (b ∷ ids)) (lt-ltb a b (rises 0 (omega arith)))
    (ids_rise (b ∷ ids) (tail_rises a (b ∷ ids) rises))

-- ---- names

letter_above : (b : ℕ) → is_letter b ≡ true → nat_lt 32 b ≡ true
letter_above b h = grind (arith, nat_tests)

letter_is_no_digit : (b : ℕ) → is_letter b ≡ true → is_ascii_digit b ≡ false
letter_is_no_digit b h = grind (arith, nat_tests)

module _ (name : List ℕ) (is : is_name name ≡ true) where
  name_parts : (1 ≤ length name) × (length name ≤ 16) × (list_all is_letter name ≡ true)
  name_parts =
      let some = nat_le 1 (length name) in
      let few = nat_le (length name) 16 in
      let last = and_parts (some && few) (list_all is_letter name) is in
      let first = and_parts some few last.0 in
      (leb-true 1 (length name) first.0, leb-true (length name) 16 first.1, last.1)

  pub name_plain : IsPlain name
  name_plain = record {
    some = name_parts.0;
    above = all_weaker is_letter (nat_lt 32) letter_above name name_parts.2;
  }

  pub name_short : length name ≤ 16
  name_short = name_parts.1

-- a word that begins with no digit is no number
no_digits : (word : List ℕ) → 1 ≤ length word → list_all is_letter word ≡ true
    → list_all is_ascii_digit word ≡ false
no_digits [] some letters = absurd (omega arith)
no_digits (b ∷ word) some letters =
    let parts = and_parts (is_letter b) (list_all is_letter word) letters in
    ap (λ (d : Bool). d && list_all is_ascii_digit word) (letter_is_no_digit b parts.0)

none_by : (a b d c : Bool) (value : ℕ) → d ≡ false
    → (if a && b && d && c then Some value else None) ≡ None
none_by true true d c value none = rw none refl
none_by true false d c value none = refl
none_by false b d c value none = refl

pub name_is_no_number : (name : List ℕ) → is_name name ≡ true → number_of name ≡ None
name_is_no_number name is =
    let parts = name_parts name is in
    none_by (nat_lt 0 (length name)) (nat_le (length name) 15) (list_all is_ascii_digit name) _
    (digits_value 10 name) (no_digits name parts.0 parts.2)

-- ---- hex digits

digit_above : (c : ℕ) → is_lower_digit c ≡ true → nat_lt 32 c ≡ true
digit_above c h = grind (arith, nat_tests)

pub digits_plain : (word : List ℕ) → 1 ≤ length word → list_all is_lower_digit word ≡ true
    → IsPlain word
digits_plain word some lower = record {
  some = some;
  above = all_weaker is_lower_digit (nat_lt 32) digit_above word lower;
}

module _ (fields : Fields) (state : State) where
  state_parts : (length (written_text fields state) ≡ 2 * bytes_in fields)
      × (list_all is_lower_digit (written_text fields state) ≡ true)
  state_parts =
      let parts = and_parts (length (written_text fields state) == 2 * bytes_in fields)
      (list_all is_lower_digit (written_text fields state)) (text_is_taken fields state) in
      (eqb-true (length (written_text fields state)) (2 * bytes_in fields) parts.0, parts.1)

  pub state_plain : 1 ≤ bytes_in fields → IsPlain (written_text fields state)
  state_plain some =
      digits_plain (written_text fields state) (omega (arith, some, state_parts.0)) state_parts.1

  pub state_short : bytes_in fields ≤ 2000 → length (written_text fields state) ≤ 4000
  state_short few = omega (arith, few, state_parts.0)

  pub state_read : IsFields fields → InRange fields state
      → state_of_digits fields (written_text fields state) ≡ Some state
  state_read limited range =
      ap (λ (b : Bool). if b then Some (read_text fields (written_text fields state)) else None)
      (text_is_taken fields state)
      ∙ ap Some (text_reads_back fields state limited range)

-- the digits of a key
lower_digit : (d : ℕ) → d < 16 → is_lower_digit (slice_index lower_digits d) ≡ true
lower_digit d lt = AllPass-from_list_all is_lower_digit lower_digits refl d 0 lt

key_lower : (bytes : List ℕ) → All (λ byte. byte < 256) bytes
    → list_all is_lower_digit (encode_lower bytes) ≡ true
unfolding encode_with
key_lower [] small = refl
key_lower (b ∷ bytes) small =
    let byte : b < 256 = All-head (λ byte. byte < 256) b bytes small in
    let high : b / 16 < 16 = omega arith in
    let low : b % 16 < 16 = omega arith in
    rw (lower_digit (b / 16) high, lower_digit (b % 16) low)
    (key_lower bytes (All-tail (λ byte. byte < 256) b bytes small))

byte_at : (bytes : List ℕ) → All (λ byte. byte < 256) bytes → (i : ℕ) → slice_index bytes i < 256
byte_at [] small i = omega arith
byte_at (b ∷ bytes) small zero = All-head (λ byte. byte < 256) b bytes small
byte_at (b ∷ bytes) small (suc i) =
    byte_at bytes (All-tail (λ byte. byte < 256) b bytes small) i

module _ (key : List ℕ) (is : IsKey key) where
  pub key_long : length (encode_lower key) ≡ 64
  key_long =
      let size = is.size in
      omega (arith, size, length-encode_with lower_digits key)

  pub key_plain : IsPlain (encode_lower key)
  key_plain = digits_plain (encode_lower key) (omega (arith, key_long)) (key_lower key is.bytes)

  pub key_read : key_of_digits (encode_lower key) ≡ Some key
  key_read =
      ap (λ (b : Bool). if b then decoded_bytes (decode_of (encode_lower key)) else None)
      (and_from (length (encode_lower key) == 64) (list_all is_lower_digit (encode_lower key))
      (eq-eqb (length (encode_lower key)) 64 key_long) (key_lower key is.bytes))
      ∙ ap decoded_bytes (decode_of-encode_lower key (byte_at key is.bytes))
