-- Texts are bytes: letters, numbers and hex digits are, and the part of a header that names a node.
use Rattle.std.proofs.Common.{◌≡◌, ℕ, zero, suc, ◌+◌, ◌*◌, ◌/◌, ◌%◌, ◌<◌, Bool, true, false, cond}
use Rattle.std.proofs.Common.{List, [], ◌∷◌, ◌++◌, length, refl, arith}
use Rattle.std.specs.Prelude.{◌==◌, nat_lt, decimal, codes, if◌then◌else◌}
use Rattle.std.specs.List.{flat_map, list_all}
use Rattle.std.specs.Fmt.{digits, digits_onto, digit_glyph}
use Rattle.std.proofs.lemmas.Bool.{and_parts, ltb-true}
use Rattle.std.proofs.lemmas.Bool.Decides.{nat_tests}
use Rattle.std.proofs.lemmas.List.Elements.{All-nil, All-cons, All-append}
use Rattle.std.proofs.lemmas.List.Sums.{AllPass-from_list_all}
use Rattle.sync_types.specs.States.{State}
use Rattle.state_codec.specs.Shapes.{Shape, Fields, fields_at, bytes_in}
use Rattle.state_codec.specs.Texts.{is_lower_digit, written_text}
use Rattle.state_codec.proofs.Digits.{text_is_taken}
use Rattle.node_words.specs.WrittenHeaders.{digits_in, node_part_in}
use Rattle.node_stepper.specs.Bytes.{AreBytes}

abbrev IsByte : ℕ → Type 0
IsByte byte = byte < 256

letters : (bytes : List ℕ) → list_all (λ b. nat_lt b 256) bytes ≡ true → AreBytes bytes
letters bytes all k d lt =
    ltb-true _ _ (AllPass-from_list_all (λ b. nat_lt b 256) bytes all k d lt)

pub one_each : {X : Type 0} (text : X → List ℕ) → ((x : X) → AreBytes (text x)) → (xs : List X)
    → AreBytes (flat_map text xs)
one_each text are [] = All-nil IsByte
one_each text are (x ∷ xs) =
    All-append IsByte (text x) (flat_map text xs) (are x) (one_each text are xs)

pub either : (b : Bool) (one other : List ℕ) → AreBytes one → AreBytes other
    → AreBytes (if b then one else other)
either true one other are are_too = are
either false one other are are_too = are_too

-- ---- numbers

glyph_by : (b : Bool) (d : ℕ) → d < 10 → cond b (48 + d) (87 + d) < 256
glyph_by true d lt = omega (arith, lt)
glyph_by false d lt = omega (arith, lt)

onto : (k n : ℕ) (acc : List ℕ) → AreBytes acc → AreBytes (digits_onto k 10 false n acc)
onto zero n acc are = are
onto (suc k) n acc are =
    let glyph = digit_glyph false (n % 10) in
    let more = All-cons IsByte glyph acc (glyph_by (nat_lt (n % 10) 10) (n % 10) (omega arith)) are
    in
    either (n / 10 == 0) (glyph ∷ acc) (digits_onto k 10 false (n / 10) (glyph ∷ acc)) more
    (onto k (n / 10) (glyph ∷ acc) more)

number : (n : ℕ) → AreBytes (decimal n)
unfolding digits
number n = onto 64 n [] (All-nil IsByte)

-- ---- digits of a state

digit_is_byte : (b : ℕ) → is_lower_digit b ≡ true → b < 256
digit_is_byte b is = grind (arith, nat_tests)

state_digits : (fields : Fields) (s : State) → AreBytes (written_text fields s)
state_digits fields s k d lt =
    let taken = and_parts (length (written_text fields s) == 2 * bytes_in fields)
    (list_all is_lower_digit (written_text fields s)) (text_is_taken fields s) in
    digit_is_byte _
    (AllPass-from_list_all is_lower_digit (written_text fields s) taken.1 k d lt)

-- ---- texts of pieces

-- letters that are given, a number, or bytes
pub data Piece : Type 0 where
  word : List ℕ → Piece
  count : ℕ → Piece
  bytes : (text : List ℕ) → AreBytes text → Piece

abbrev pub text_of : Piece → List ℕ
text_of (word text) = text
text_of (count n) = decimal n
text_of (bytes text are) = text

-- the pieces, one after the other
abbrev pub joined : List Piece → List ℕ
joined [] = []
joined (piece ∷ pieces) = text_of piece ++ joined pieces

abbrev pub is_given : Piece → Bool
is_given (word text) = list_all (λ b. nat_lt b 256) text
is_given (count n) = true
is_given (bytes text are) = true

piece_bytes : (piece : Piece) → is_given piece ≡ true → AreBytes (text_of piece)
piece_bytes (word text) all = letters text all
piece_bytes (count n) all = number n
piece_bytes (bytes text are) all = are

pub pieces_bytes : (pieces : List Piece) → list_all is_given pieces ≡ true
    → AreBytes (joined pieces)
pieces_bytes [] all = All-nil IsByte
pieces_bytes (piece ∷ pieces) all =
    let both = and_parts (is_given piece) (list_all is_given pieces) all in
    All-append IsByte (text_of piece) (joined pieces) (piece_bytes piece both.0)
    (pieces_bytes pieces both.1)

-- the part that names a node and its state
pub node_part : (shape : Shape) (v : ℕ) (s : State) → AreBytes (node_part_in shape v s)
node_part shape v s =
    pieces_bytes (
    word (codes "node 1\n")
    ∷ word (codes "id ") ∷ count v ∷ word (codes "\n")
    ∷ word (codes "state ")
    ∷ bytes (digits_in shape v s) (state_digits (fields_at shape v) s) ∷ word (codes "\n")
    ∷ word (codes "end\n") ∷ []) refl
