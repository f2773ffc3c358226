-- Digits are decoded pair by pair.
use Rattle.std.proofs.Common.{◌≡◌, ℕ, zero, suc, ◌+◌, ◌*◌, Bool, true, ◌&&◌, List, [], ◌∷◌, length}
use Rattle.std.proofs.Common.{take, drop, Some, Ok, refl, sym, ap, ap₂, ◌∙◌, arith}
use Rattle.std.specs.List.{list_all}
use Rattle.std.proofs.lemmas.Bool.{and_parts}
use Rattle.std.proofs.lemmas.List.{append-nil, drop_all}
use Rattle.hex.specs.Hex.{decode_pairs, digit_or_error, hex_digit_value, pair_value, value_at}
use Rattle.hex.proofs.HexLemmas.{decode_of-even}
use Rattle.hex.proofs.Pairs.{prepend}
use Rattle.state_codec.specs.Texts.{bytes_or_none, decoded}

-- the first of some digits are digits
pub front_lower : (p : ℕ → Bool) (n : ℕ) (text : List ℕ) → list_all p text ≡ true
    → list_all p (take n text) ≡ true
front_lower p zero text all = refl
front_lower p (suc n) [] all = refl
front_lower p (suc n) (x ∷ text) all =
    let parts = and_parts (p x) (list_all p text) all in
    ap₂ (λ a b. a && b) parts.0 (front_lower p n text parts.1)

-- the byte of two digits
pub pair_of : (high low h l i : ℕ) → hex_digit_value high ≡ Some h → hex_digit_value low ≡ Some l
    → pair_value high low i ≡ Ok (h * 16 + l)
pair_of high low h l i first second =
    let x : value_at high i ≡ Ok h = ap (digit_or_error high i) first in
    let y : value_at low (i + 1) ≡ Ok l = ap (digit_or_error low (i + 1)) second in
    rw (x, y) refl

-- no pair is left
pub all_decoded : (text bytes : List ℕ) (n i : ℕ) → length text ≡ 2 * n → i ≡ n
    → decode_pairs 0 text ≡ prepend (take i bytes) (decode_pairs (2 * i) (drop (2 * i) text))
    → take n bytes ≡ decoded text
unfolding decode_pairs
all_decoded text bytes n i long ends so_far =
    let whole : decode_pairs 0 text ≡ Ok (take i bytes) =
    so_far
    ∙ ap (prepend (take i bytes)) (ap (decode_pairs (2 * i)) (drop_all (2 * i) text
    (omega (arith, long, ends))))
    ∙ ap Ok (append-nil (take i bytes)) in
    ap (λ (k : ℕ). take k bytes) (sym ends)
    ∙ sym (ap bytes_or_none (decode_of-even text (omega (arith, long)) ∙ whole))
