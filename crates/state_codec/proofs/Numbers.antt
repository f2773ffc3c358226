-- Bits of numbers, and numbers of bits.
use Rattle.std.proofs.Common.{◌≡◌, ℕ, zero, suc, ◌+◌, ◌*◌, ◌/◌, ◌%◌, ◌^◌, ◌≤◌, ◌<◌, Bool, true}
use Rattle.std.proofs.Common.{false, length, List, [], ◌∷◌, ◌++◌, refl, sym, ap, ◌∙◌, arith, ◌==◌}
use Rattle.std.proofs.Common.{if◌then◌else◌, replicate}
use Rattle.std.specs.Int.{bit_at}
use Rattle.std.proofs.lemmas.Nat.{mod-pow-add, shr-shr, shr_high, shr_split}
use Rattle.std.proofs.lemmas.Nat.Bits.{bit_at-lt, bit_at_cat_low, bit_at-zero}
use Rattle.std.proofs.Math.Nat.{mod-eq_of_lt, pow-suc, pow-zero}
use Rattle.state_codec.specs.Bits.{bits, number_of}

pub length-bits : (w n : ℕ) → length (bits w n) ≡ w
unfolding bits
length-bits zero n = refl
length-bits (suc w) n = ap suc (length-bits w n)

-- a bit is what its test says
bit_of_test : (d : ℕ) → d < 2 → (if d == 1 then 1 else 0) ≡ d
bit_of_test zero h = refl
bit_of_test (suc zero) h = refl
bit_of_test (suc (suc d)) h = absurd (omega arith)

-- the lowest bits write the remainder
pub number_of-bits : (w n : ℕ) → number_of (bits w n) ≡ n % 2 ^ w
unfolding bits number_of
number_of-bits zero n = omega arith
number_of-bits (suc w) n =
    let e = mod-pow-add n 1 w in
    let s : suc w ≡ 1 + w = omega arith in
    rw (length-bits w n, number_of-bits w n, bit_of_test (bit_at n w) (bit_at-lt n w), s) (sym e)

-- enough bits write the number
pub number_of_enough : (w n : ℕ) → n < 2 ^ w → number_of (bits w n) ≡ n
number_of_enough w n enough = number_of-bits w n ∙ mod-eq_of_lt enough

-- the first bits and the last
pub bits_split : (h w n : ℕ) → bits (h + w) n ≡ bits h (n / 2 ^ w) ++ bits w n
unfolding bits
bits_split zero w n = let e : zero + w ≡ w = omega arith in rw e refl
bits_split (suc h) w n =
    let e : suc h + w ≡ suc (h + w) = omega arith in
    let s : w + h ≡ h + w = omega arith in
    let b : bit_at (n / 2 ^ w) h ≡ bit_at n (h + w) = ap (λ (y : ℕ). y % 2) (shr-shr n w h)
    ∙ ap (λ (y : ℕ). bit_at n y) s in
    rw (e, b, bits_split h w n) refl

-- higher bits are not among the lowest
pub bits_low : (w k a b : ℕ) → w ≤ k → bits w (a * 2 ^ k + b) ≡ bits w b
unfolding bits
bits_low zero k a b h = refl
bits_low (suc w) k a b h =
    rw (bit_at_cat_low a k b w (omega arith), bits_low w k a b (omega arith)) refl

-- the bits of a remainder
pub bits_of_remainder : (k n : ℕ) → bits k (n % 2 ^ k) ≡ bits k n
bits_of_remainder k n = sym (bits_low k k (n / 2 ^ k) (n % 2 ^ k) (omega arith))
    ∙ ap (λ (y : ℕ). bits k y) (shr_split n k)

-- bits after others
pub bits_push : (h w a b : ℕ) → b < 2 ^ w → bits h a ++ bits w b ≡ bits (h + w) (a * 2 ^ w + b)
bits_push h w a b l =
    sym (bits_split h w (a * 2 ^ w + b)
    ∙ ap (λ (y : ℕ). bits h y ++ bits w (a * 2 ^ w + b)) (shr_high a w b l)
    ∙ ap (λ (y : List Bool). bits h a ++ y) (bits_low w w a b (omega arith)))

-- the bits of zero
pub bits_of_zero : (n : ℕ) → bits n 0 ≡ replicate n false
unfolding bits
bits_of_zero zero = refl
bits_of_zero (suc n) = rw (bit_at-zero n, bits_of_zero n) refl

-- the number of so many bits is below that power of two
pub number_of_below : (bs : List Bool) → number_of bs < 2 ^ length bs
unfolding number_of
number_of_below [] = omega (arith, pow-zero 2)
number_of_below (false ∷ bs) = omega (arith, number_of_below bs, pow-suc 2 (length bs))
number_of_below (true ∷ bs) = omega (arith, number_of_below bs, pow-suc 2 (length bs))

top_bit : (b : Bool) (w r : ℕ) → r < 2 ^ w → (bit_at ((if b then 1 else 0) * 2 ^ w + r) w == 1) ≡ b
top_bit false w r h = rw (shr_high 0 w r h) refl
top_bit true w r h = rw (shr_high 1 w r h) refl

-- the bits of the number that bits write are these bits
pub bits-number_of : (bs : List Bool) → bits (length bs) (number_of bs) ≡ bs
unfolding bits number_of
bits-number_of [] = refl
bits-number_of (b ∷ bs) =
    rw (
      top_bit b (length bs) (number_of bs) (number_of_below bs),
      bits_low (length bs) (length bs)
          (if b then 1 else 0) (number_of bs) (omega arith),
      bits-number_of bs,
    ) refl
