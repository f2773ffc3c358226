-- A product with the factor tells the quotient.
use Rattle.std.proofs.Common.{◌≡◌, ℕ, ◌+◌, ◌-◌, ◌*◌, ◌/◌, ◌%◌, ◌<◌, ◌≤◌, ap, ◌∙◌, arith}
use Rattle.std.proofs.Math.Nat.{div-add-mod, mod-lt, mul-le-mul, mul_left_comm, mul_assoc, mul-add}
use Rattle.std.proofs.Math.Nat.{le_of_mul-le-mul_left, lt_of_mul-lt-mul_left}
use Rattle.boost_step.specs.Factors.{factor_of}

-- a quotient by 2 ^ 32 is the one between whose multiples the number is
between : (n q : ℕ) → q * 4294967296 ≤ n → n < q * 4294967296 + 4294967296 → n / 4294967296 ≡ q
between n q least most =
    let whole = div-add-mod n 4294967296 in
    let rest = mod-lt n {m = 4294967296} (omega arith) in
    omega (arith, whole, rest, least, most)

module _ (d x : ℕ) (some : 1 ≤ d) (small : x < factor_of d) where
  abbrev g : ℕ
  g = 4294967295 / d

  abbrev q : ℕ
  q = x / d

  -- by how much the factor's multiple is past 2 ^ 32
  abbrev past : ℕ
  past = d - 1 - 4294967295 % d

  multiple : d * (g + 1) ≡ 4294967296 + past
  multiple =
      let whole = div-add-mod 4294967295 d in
      let rest = mod-lt 4294967295 {m = d} some in
      mul-add d g 1 ∙ omega (arith, whole, rest, some)

  products : d * (x * (g + 1)) ≡ x * 4294967296 + x * past
  products =
      mul_left_comm d x (g + 1) ∙ ap (λ (m : ℕ). x * m) multiple ∙ mul-add x 4294967296 past

  few : x * past < 4294967296
  few =
      let past_few : past ≤ d = omega arith in
      let bound : x * past ≤ g * d = mul-le-mul (omega (arith, small)) past_few in
      let whole = div-add-mod 4294967295 d in
      let turned : d * g ≡ g * d = omega arith in
      omega (arith, bound, whole, turned)

  pub least : q * 4294967296 ≤ x * (g + 1)
  least =
      let whole = div-add-mod x d in
      le_of_mul-le-mul_left {k = d} (rw products (rw (← mul_assoc d q 4294967296)
      (omega (arith, whole)))) some

  pub most : x * (g + 1) < q * 4294967296 + 4294967296
  most =
      let whole = div-add-mod x d in
      let rest = mod-lt x {m = d} some in
      lt_of_mul-lt-mul_left d (rw products (rw (
        mul-add d (q * 4294967296) 4294967296,
        ← mul_assoc d q 4294967296,
      ) (omega (arith, whole, rest, few))))

  pub product_tells : x * factor_of d / 4294967296 ≡ x / d
  product_tells = between (x * (g + 1)) q least most
