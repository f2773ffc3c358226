-- Bits cut into bytes, and joined again.
use Rattle.std.proofs.Common.{◌≡◌, ℕ, zero, suc, ◌*◌, ◌^◌, ◌≤◌, ◌<◌, Bool, length, take, drop}
use Rattle.std.proofs.Common.{get_or, List, [], ◌∷◌, refl, sym, ap, ◌∙◌, arith, length-append}
use Rattle.std.specs.Prelude.{slice_index}
use Rattle.std.proofs.lemmas.List.{take_at, drop_at, nil_from_length, length-take, length-take-le}
use Rattle.std.proofs.lemmas.List.{length-drop, take-append-drop}
use Rattle.std.proofs.Math.Nat.{pow-le-pow_right}
use Rattle.state_codec.specs.Bits.{bits, number_of, bits_of_bytes, bytes_of_bits}
use Rattle.state_codec.proofs.Numbers.{length-bits, number_of_enough, bits-number_of}
use Rattle.state_codec.proofs.Numbers.{number_of_below}

-- bytes are those of their bits
pub bytes_of_bits-bits_of_bytes : (bytes : List ℕ) → ((i : ℕ) → get_or bytes i 0 < 256)
    → bytes_of_bits (length bytes) (bits_of_bytes bytes) ≡ bytes
unfolding bytes_of_bits
bytes_of_bits-bits_of_bytes [] h = refl
bytes_of_bits-bits_of_bytes (b ∷ bytes) h =
    rw (
      take_at (bits 8 b) (bits_of_bytes bytes) 8 (length-bits 8 b),
      drop_at (bits 8 b)
          (bits_of_bytes bytes) 8 (length-bits 8 b),
      number_of_enough 8 b
          (h 0),
      bytes_of_bits-bits_of_bytes bytes (λ i. h (suc i)),
    ) refl

pub length-bytes_of_bits : (k : ℕ) (bs : List Bool) → length (bytes_of_bits k bs) ≡ k
unfolding bytes_of_bits
length-bytes_of_bits zero bs = refl
length-bytes_of_bits (suc k) bs = ap suc (length-bytes_of_bits k (drop 8 bs))

-- bits that fill whole bytes are those of their bytes
pub bits_of_bytes-bytes_of_bits : (k : ℕ) (bs : List Bool) → length bs ≡ 8 * k
    → bits_of_bytes (bytes_of_bits k bs) ≡ bs
unfolding bytes_of_bits
bits_of_bytes-bytes_of_bits zero bs h = sym (nil_from_length bs (omega arith))
bits_of_bytes-bytes_of_bits (suc k) bs h =
    let e : length (take 8 bs) ≡ 8 = length-take-le 8 bs (omega arith) in
    let b : bits 8 (number_of (take 8 bs)) ≡ take 8 bs =
    ap (λ (y : ℕ). bits y (number_of (take 8 bs))) (sym e) ∙ bits-number_of (take 8 bs) in
    rw (b, bits_of_bytes-bytes_of_bits k (drop 8 bs) (omega (arith, length-drop 8 bs)))
    (take-append-drop 8 bs)

pub length-bits_of_bytes : (bytes : List ℕ) → length (bits_of_bytes bytes) ≡ 8 * length bytes
length-bits_of_bytes [] = omega arith
length-bits_of_bytes (b ∷ bytes) =
    omega (
      arith,
      length-append (bits 8 b)
          (bits_of_bytes bytes),
      length-bits 8 b,
      length-bits_of_bytes bytes,
    )

-- each is a byte
pub bytes_of_bits_below : (k : ℕ) (bs : List Bool) (i : ℕ)
    → slice_index (bytes_of_bits k bs) i < 256
unfolding bytes_of_bits
bytes_of_bits_below zero bs i = omega arith
bytes_of_bits_below (suc k) bs zero =
    let two : 0 < 2 = omega arith in
    let short : length (take 8 bs) ≤ 8 = omega (arith, length-take 8 bs) in
    let most : 2 ^ length (take 8 bs) ≤ 2 ^ 8 = pow-le-pow_right two short in
    omega (arith, number_of_below (take 8 bs))
bytes_of_bits_below (suc k) bs (suc i) = bytes_of_bits_below k (drop 8 bs) i
