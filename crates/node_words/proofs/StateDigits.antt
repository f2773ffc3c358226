-- The digits of a state are a word: they are some, not many, and above a space.
use Rattle.std.proofs.Common.{◌≡◌, ℕ, zero, suc, ◌+◌, ◌*◌, ◌^◌, ◌<◌, ◌≤◌, Bool, true, false, cond}
use Rattle.std.proofs.Common.{List, [], ◌∷◌, length, get_or, refl, sym, subst, arith}
use Rattle.std.specs.Prelude.{nat_lt, ◌==◌, All}
use Rattle.std.specs.List.{list_all}
use Rattle.std.proofs.lemmas.Bool.{and_parts, eqb-true, ne_eqb}
use Rattle.std.proofs.lemmas.Bool.Decides.{nat_tests}
use Rattle.texts.proofs.Printed.{IsPlain}
use Rattle.construction.specs.Widths.{width}
use Rattle.sync_types.specs.States.{State}
use Rattle.state_codec.specs.Shapes.{Fields, IsFields, Shape, IsShape, fields_at, register_bits}
use Rattle.state_codec.specs.Shapes.{registers_bits, bits_in, bytes_in}
use Rattle.state_codec.specs.Texts.{is_lower_digit}
use Rattle.state_codec.proofs.BitLengths.{width_fits, width_short}
use Rattle.state_codec.proofs.Digits.{text_is_taken}
use Rattle.state_codec.proofs.Lows.{depth_at, fields_limited}
use Rattle.state_codec.proofs.RegisterSteps.{registers_bits-cons, registers_bits_of_none}
use Rattle.node_words.specs.WrittenHeaders.{digits_in}

-- ---- bits

-- a modulus above one takes a bit
pub wide : (base : ℕ) → 2 ≤ base → base ≤ 2 ^ 40 → 0 < width base
wide (suc n) two most =
    let fits = width_fits n (omega (arith, most)) in
    let e : n + 1 ≡ suc n = omega arith in
    subst (λ k. 0 < width k) e (some_by (width (n + 1)) fits) where
      some_by : (w : ℕ) → n < 2 ^ w → 0 < w
      some_by zero lt = absurd (omega (arith, lt))
      some_by (suc w) lt = omega arith
wide zero two most = absurd (omega arith)

narrow : (base : ℕ) → base ≤ 2 ^ 40 → 1 ≤ base → width base ≤ 41
narrow (suc n) most some =
    let short = width_short n (omega arith) in
    let e : n + 1 ≡ suc n = omega arith in
    subst (λ k. width k ≤ 41) e short
narrow zero most some = absurd (omega arith)

bits_by : (b : Bool) (m : ℕ) → m ≤ 41 → cond b 0 (m + 1) ≤ 42
bits_by true m most = omega arith
bits_by false m most = omega arith

few_bits : (cs : List ℕ) → All (λ c. c ≤ 2 ^ 40) cs → registers_bits cs ≤ 42 * length cs
few_bits [] limits = omega (arith, registers_bits_of_none)
few_bits (c ∷ cs) limits =
    let here : register_bits c ≤ 42 =
    bits_by (c == 0) (width (c + 1)) (width_short c (limits 0 0 (omega arith))) in
    let rest = few_bits cs (λ k d lt. limits (suc k) d (omega arith)) in
    omega (arith, registers_bits-cons c cs, here, rest)

pub some_register : (c : ℕ) → 2 ≤ c → 0 < register_bits c
some_register c two =
    let other : (c == 0) ≡ false = ne_eqb c 0 (λ e. absurd (omega arith)) in
    subst (λ b. 0 < cond b 0 (width (c + 1) + 1)) (sym other) (omega arith)

pub one_counts : (cs : List ℕ) (i : ℕ) → i < length cs → 2 ≤ get_or cs i 0 → 0 < registers_bits cs
one_counts [] i lt two = absurd (omega arith)
one_counts (c ∷ cs) zero lt two = omega (arith, registers_bits-cons c cs, some_register c two)
one_counts (c ∷ cs) (suc i) lt two =
    omega (arith, registers_bits-cons c cs, one_counts cs i (omega arith) two)

pub most_bits : (fields : Fields) → IsFields fields
    → bits_in fields ≤ 42 * length fields.moduli + 41
most_bits fields is =
    omega (arith, few_bits fields.moduli is.moduli, narrow fields.base is.most is.least)

-- ---- the digits

digit_above : (b : ℕ) → is_lower_digit b ≡ true → nat_lt 32 b ≡ true
digit_above b h = grind (arith, nat_tests)

digits_above : (bytes : List ℕ) → list_all is_lower_digit bytes ≡ true
    → list_all (nat_lt 32) bytes ≡ true
digits_above [] h = refl
digits_above (b ∷ bytes) h =
    let parts = and_parts (is_lower_digit b) (list_all is_lower_digit bytes) h in
    rw (digit_above b parts.0, digits_above bytes parts.1) refl

module _ (shape : Shape) (v : ℕ) (s : State) where
  abbrev fields : Fields
  fields = fields_at shape v

  abbrev digits : List ℕ
  digits = digits_in shape v s

  taken : (length digits ≡ 2 * bytes_in fields) × (list_all is_lower_digit digits ≡ true)
  taken =
      let parts = and_parts (length digits == 2 * bytes_in fields)
      (list_all is_lower_digit digits) (text_is_taken fields s) in
      (eqb-true (length digits) (2 * bytes_in fields) parts.0, parts.1)

  pub digits_plain : 0 < bits_in fields → IsPlain digits
  digits_plain some =
      record { some = omega (arith, taken.0, some); above = digits_above digits taken.1 }

  pub digits_few : IsShape shape → shape.depth ≤ 340 → length digits ≤ 4000
  digits_few is deep =
      let most = most_bits fields (fields_limited shape v is) in
      let bits : bits_in fields ≤ 14321 = omega (arith, most, depth_at shape v, deep) in
      omega (arith, taken.0, bits)
