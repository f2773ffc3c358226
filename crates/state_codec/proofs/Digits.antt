-- Digits of 0-9a-f.
use Rattle.std.proofs.Common.{◌≡◌, ℕ, suc, ◌++◌, ◌*◌, ◌/◌, ◌%◌, ◌<◌, ◌||◌, ◌&&◌, ◌==◌, Bool, true}
use Rattle.std.proofs.Common.{false, length, List, [], ◌∷◌, refl, sym, ap, ◌∙◌, arith, Some, None}
use Rattle.std.proofs.Common.{Result, Ok, Err, nat_le, if◌then◌else◌}
use Rattle.std.specs.Prelude.{MatchResult, is_some, slice_index, slice_index_or}
use Rattle.std.specs.List.{list_all, AllPass}
use Rattle.std.proofs.lemmas.Bool.{eq-eqb}
use Rattle.std.proofs.lemmas.List.Sums.{AllPass-from_list_all}
use Rattle.hex.specs.Hex.{decode_sized, is_hex_digit, encode_with, lower_digits}
use Rattle.hex.specs.declared.error.FromHexError.{FromHexError}
use Rattle.hex.proofs.HexLemmas.{decode_sized-twice, decode_of-digits, decode_of-encode_lower}
use Rattle.hex.proofs.HexLemmas.{length-encode_with}
use Rattle.state_codec.proofs.Bytes.{bytes_of_bits_below, length-bytes_of_bits}
use Rattle.sync_types.specs.States.{State}
use Rattle.state_codec.specs.Shapes.{Fields, IsFields, bytes_in}
use Rattle.state_codec.specs.Ranges.{InRange}
use Rattle.state_codec.specs.Writing.{written, bits_of_state, padding}
use Rattle.state_codec.specs.Reading.{read}
use Rattle.state_codec.specs.Texts.{is_lower_digit, is_state_text, written_text, bytes_or_none}
use Rattle.state_codec.specs.Texts.{decoded, read_text}
use Rattle.state_codec.proofs.Back.{written_reads_back}

one_of : (u l d : Bool) (x y z : ℕ) → (d || l) ≡ true
    → is_some (if u then Some x else if l then Some y else if d then Some z else None) ≡ true
one_of true l d x y z h = refl
one_of false true d x y z h = refl
one_of false false true x y z h = refl
one_of false false false x y z h = absurd (cc)

lower_is_digit : (c : ℕ) → is_lower_digit c ≡ true → is_hex_digit c ≡ true
lower_is_digit c h = one_of (nat_le 65 c && nat_le c 70) (nat_le 97 c && nat_le c 102)
    (nat_le 48 c && nat_le c 57) _ _ _ h

-- lower digits are decoded
pub lower_decoded : (text : List ℕ) (n : ℕ) (out : List ℕ) (r : Result Unit FromHexError)
    → length text ≡ 2 * n → list_all is_lower_digit text ≡ true
    → MatchResult (decode_sized text n) (λ bytes. (r ≡ Ok tt) × (out ≡ bytes)) (λ e. r ≡ Err e)
    → out ≡ decoded text
lower_decoded text n out r long lower match =
    let digits : AllPass is_hex_digit text =
    λ k d p. lower_is_digit (slice_index_or text k d)
    (AllPass-from_list_all is_lower_digit text lower k d p) in
    let even : length text % 2 ≡ 0 = omega arith in
    let d = decode_of-digits text even digits in
    let e : decode_sized text n ≡ Ok d.0 = decode_sized-twice text n long ∙ d.1 in
    let m : (r ≡ Ok tt) × (out ≡ d.0) = rw e at match in
    m.1 ∙ sym (ap bytes_or_none d.1)

digit : (d : ℕ) → d < 16 → is_lower_digit (slice_index lower_digits d) ≡ true
digit d h = AllPass-from_list_all is_lower_digit lower_digits refl d 0 h

lower_encoded : (bytes : List ℕ) → ((i : ℕ) → slice_index bytes i < 256)
    → list_all is_lower_digit (encode_with lower_digits bytes) ≡ true
unfolding encode_with
lower_encoded [] h = refl
lower_encoded (b ∷ bytes) h =
    let byte : b < 256 = h 0 in
    let high : b / 16 < 16 = omega arith in
    let low : b % 16 < 16 = omega arith in
    rw (digit (b / 16) high, digit (b % 16) low) (lower_encoded bytes (λ i. h (suc i)))

-- what is written are bytes
written_below : (fields : Fields) (s : State) (i : ℕ) → slice_index (written fields s) i < 256
written_below fields s i = bytes_of_bits_below (bytes_in fields)
    (bits_of_state fields s ++ padding fields) i

-- the digits of a state are a state's text
pub text_is_taken : (fields : Fields) (s : State)
    → is_state_text fields (written_text fields s) ≡ true
text_is_taken fields s =
    let size : length (written fields s) ≡ bytes_in fields =
    length-bytes_of_bits (bytes_in fields) (bits_of_state fields s ++ padding fields) in
    let long : length (written_text fields s) ≡ 2 * bytes_in fields =
    length-encode_with lower_digits (written fields s) ∙ ap (λ (y : ℕ). 2 * y) size in
    let test : (length (written_text fields s) == 2 * bytes_in fields) ≡ true = eq-eqb _ _ long in
    rw (test, lower_encoded (written fields s) (written_below fields s)) refl

-- and read back
pub text_reads_back : (fields : Fields) (s : State) → IsFields fields → InRange fields s
    → read_text fields (written_text fields s) ≡ s
text_reads_back fields s sound range =
    ap (λ (y : List ℕ). read fields y)
    (ap bytes_or_none (decode_of-encode_lower (written fields s) (written_below fields s)))
    ∙ written_reads_back fields s sound range
