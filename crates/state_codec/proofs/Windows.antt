-- The bits of bytes, and the number that eight of them write.
use Rattle.std.proofs.Common.{◌≡◌, ℕ, zero, suc, ◌+◌, ◌-◌, ◌*◌, ◌/◌, ◌%◌, ◌^◌, ◌<◌, ◌≤◌, List, ◌++◌}
use Rattle.std.proofs.Common.{length, take, drop, get_or, refl, sym, ap, subst, ◌∙◌, arith}
use Rattle.std.proofs.Math.Seq.{drop-cons, drop-append-add}
use Rattle.std.proofs.lemmas.Grind.{flat_map-append}
use Rattle.std.proofs.lemmas.List.{get_or-take, get_or-drop, take-append-drop, take_all}
use Rattle.std.proofs.lemmas.List.{length-take, length-drop}
use Rattle.std.proofs.lemmas.Nat.{pow-add, div_below, pow_pos}
use Rattle.std.proofs.Math.Nat.{mod-lt, mod-eq_of_lt, mul-le-mul_right}
use Rattle.byteorder.specs.Endian.{big_from}
use Rattle.state_codec.specs.Bits.{bits, number_of, bits_of_bytes}
use Rattle.state_codec.proofs.Numbers.{bits_push, number_of-bits}
use Rattle.state_codec.proofs.Fronts.{take_front, drop_front}
use Rattle.state_codec.proofs.Bytes.{length-bits_of_bytes}

powers : (n : ℕ) → 256 ^ n ≡ 2 ^ (8 * n)
powers zero = refl
powers (suc n) =
    let e : 8 * suc n ≡ 8 * n + 8 = omega arith in
    let f : suc n ≡ n + 1 = omega arith in
    ap (λ k. 256 ^ k) f ∙ (pow-add 256 n 1
    ∙ (ap (λ y. y * 256 ^ 1) (powers n) ∙ (sym (pow-add 2 (8 * n) 8) ∙ ap (λ k. 2 ^ k) (sym e))))

-- so many bytes write the number that their bits write
pub window : (n i : ℕ) (xs : List ℕ) → ((j : ℕ) → j < length xs → get_or xs j 0 < 256)
    → i + n ≤ length xs → (bits (8 * n) (big_from i n xs)
    ≡ bits_of_bytes (take n (drop i xs))) × (big_from i n xs < 2 ^ (8 * n))
unfolding bits
window zero i xs small within = (refl, omega arith)
window (suc n) i xs small within =
    let more = window n (suc i) xs small (omega (arith, within)) in
    let x = get_or xs i 0 in
    let e : 8 * suc n ≡ 8 + 8 * n = omega arith in
    let number : big_from i (suc n) xs ≡ x * 2 ^ (8 * n) + big_from (suc i) n xs =
    ap (λ y. x * y + big_from (suc i) n xs) (powers n) in
    let cons = drop-cons xs i 0 (omega (arith, within)) in (
      ap (λ k. bits k (big_from i (suc n) xs)) e
          ∙ (ap (bits (8 + 8 * n)) number
          ∙ (sym (bits_push 8 (8 * n) x (big_from (suc i) n xs) more.1)
          ∙ (ap (λ ys. bits 8 x ++ ys) more.0
          ∙ ap (λ ys. bits_of_bytes (take (suc n) ys)) (sym cons)))),
      let fits = small i (omega (arith, within)) in
          let top : 2 ^ (8 * suc n) ≡ 2 ^ 8 * 2 ^ (8 * n) = ap (λ k. 2 ^ k) e
          ∙ pow-add 2 8 (8 * n) in
          let most : (x + 1) * 2 ^ (8 * n) ≤ 256 * 2 ^ (8 * n) =
          mul-le-mul_right (2 ^ (8 * n)) (omega (arith, fits)) in
          omega (arith, number, top, most, more.1),
    )

-- a field in the eight bytes from its first one on
pub field : (bytes : List ℕ) (from width : ℕ) → ((j : ℕ) → get_or bytes j 0 < 256) → width ≤ 56
    → from / 8 + 8 ≤ length bytes
    → number_of (take width (drop from (bits_of_bytes bytes)))
    ≡ big_from 0 8 (take 8 (drop (from / 8) bytes)) / 2 ^ (64 - from % 8 - width) % 2 ^ width
field bytes from width small most within =
    let q = from / 8 in
    let k = from % 8 in
    let below : k < 8 = mod-lt from (omega arith) in
    let r = 64 - k - width in
    let eight = take 8 (drop q bytes) in
    let behind = bits_of_bytes (drop 8 (drop q bytes)) in
    let n = big_from 0 8 eight in
    let place : from ≡ 8 * q + k = omega arith in
    let all : 64 ≡ k + (width + r) = omega (arith, below) in
    let long : length eight ≡ 8 = omega
    (arith, length-take 8 (drop q bytes), length-drop q bytes) in
    let fits : (j : ℕ) → j < length eight → get_or eight j 0 < 256 =
    λ j lt. subst (λ y. y < 256) (sym (get_or-take 8 (drop q bytes) j 0 (omega (arith, long))
    ∙ get_or-drop q bytes j 0)) (small (q + j)) in
    let front : length (bits_of_bytes (take q bytes)) ≡ 8 * q =
    omega (arith, length-bits_of_bytes (take q bytes), length-take q bytes) in
    let bytes_two : bits_of_bytes bytes
    ≡ bits_of_bytes (take q bytes) ++ bits_of_bytes (drop q bytes) =
    ap bits_of_bytes (sym (take-append-drop q bytes))
    ∙ flat_map-append (bits 8) (take q bytes) (drop q bytes) in
    let rest_two : bits_of_bytes (drop q bytes) ≡ bits_of_bytes eight ++ behind =
    ap bits_of_bytes (sym (take-append-drop 8 (drop q bytes)))
    ∙ flat_map-append (bits 8) eight (drop 8 (drop q bytes)) in
    let whole : bits 64 n ≡ bits_of_bytes eight = (window 8 0 eight fits (omega (arith, long))).0
    ∙ ap bits_of_bytes (take_all 8 eight (omega (arith, long))) in
    let there : drop from (bits_of_bytes bytes) ≡ drop k (bits_of_bytes (drop q bytes)) =
    ap (drop from) bytes_two
    ∙ (ap (λ j. drop j (bits_of_bytes (take q bytes) ++ bits_of_bytes (drop q bytes)))
    (place ∙ ap (λ j. j + k) (sym front))
    ∙ drop-append-add (bits_of_bytes (take q bytes)) (bits_of_bytes (drop q bytes)) k) in
    let cut : drop k (bits_of_bytes (drop q bytes)) ≡ bits (width + r) n ++ behind =
    ap (drop k) (rest_two ∙ ap (λ ys. ys ++ behind) (sym whole ∙ ap (λ j. bits j n) all))
    ∙ drop_front k (width + r) n behind in
    ap (λ ys. number_of (take width ys)) (there ∙ cut)
    ∙ (ap number_of (take_front width r n behind) ∙ number_of-bits width (n / 2 ^ r))

-- a field at the beginning of bytes
pub front : (bytes : List ℕ) (width n : ℕ) → ((j : ℕ) → get_or bytes j 0 < 256) → width ≤ 56
    → 8 ≤ length bytes → n < 2 ^ 64 → n ≡ big_from 0 8 (take 8 bytes)
    → n / 2 ^ (64 - width) ≡ number_of (take width (bits_of_bytes bytes))
front bytes width n small most within fits is =
    let r : ℕ = 64 - width in
    let all : width + r ≡ 64 = omega (arith, most) in
    let below : n < 2 ^ width * 2 ^ r =
    omega (arith, fits, pow-add 2 width r, ap (λ k. 2 ^ k) all) in
    sym (mod-eq_of_lt (div_below n (2 ^ r) (2 ^ width) (pow_pos r) below))
    ∙ (ap (λ k. k / 2 ^ r % 2 ^ width) is ∙ sym (field bytes 0 width small most within))
