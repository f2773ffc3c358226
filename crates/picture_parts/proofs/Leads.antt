-- How far outputs are ahead of their configurations.
use Rattle.std.proofs.Common.{◌≡◌, ℕ, ◌+◌, ◌-◌, ◌*◌, ◌%◌, ◌<◌, ◌≤◌, ◌⊎◌, inl, inr, ap, ◌∙◌, arith}
use Rattle.std.proofs.lemmas.Nat.{mod_below}
use Rattle.std.proofs.lemmas.Bool.{cases_lt}
use native.Mathlib.Nat.{mod-add-mod, mod-eq_of_lt, mod-eq-sub-mod}
use Rattle.picture_parts.specs.Faces.{lead_of}

-- what is less than two rounds is less than one, or one more
wraps_once : (a m : ℕ) → a < m * 2 → ((a % m ≡ a) × (a < m)) ⊎ ((a % m + m ≡ a) × (m ≤ a))
wraps_once a m twice = elim (cases_lt a m) [
  | inl less ↦ inl (mod-eq_of_lt less, less)
  | inr most ↦ inr (
    omega (
      arith,
      most,
      mod-eq-sub-mod most,
      mod-eq_of_lt {n = a - m} {m = m} (omega (arith, twice, most)),
    ),
    most,
  )
]

pub lead_kept : (m t o : ℕ) → o < m → lead_of m (t + 1) ((o + 1) % m) ≡ lead_of m t o
lead_kept m t o low =
    let below : t % m < m = mod_below t m (omega (arith, low)) in
    let next : (t % m + 1) % m ≡ (t + 1) % m = mod-add-mod t m 1 in
    let due : ℕ = m - (t + 1) % m in
    mod-add-mod (o + 1) m due
    ∙ elim (wraps_once (t % m + 1) m (omega (arith, below))) [
      | inl once ↦
          let same : o + 1 + due ≡ o + (m - t % m) = omega (arith, once.0, once.1, next) in
          ap (λ x. x % m) same
      | inr twice ↦
          let more : m ≤ o + 1 + due = omega (arith, twice.0, twice.1, below, next) in
          let same : o + 1 + due - m ≡ o + (m - t % m) =
          omega (arith, twice.0, twice.1, below, next) in
          mod-eq-sub-mod more ∙ ap (λ x. x % m) same
    ]

pub lead_tells : (m t o p : ℕ) → o < m → p < m → lead_of m t o ≡ lead_of m t p → o ≡ p
lead_tells m t o p low less same =
    let below : t % m < m = mod_below t m (omega (arith, low)) in
    let due : ℕ = m - t % m in
    elim (wraps_once (o + due) m (omega (arith, low, below))) [
      | inl one ↦ elim (wraps_once (p + due) m (omega (arith, less, below))) [
        | inl other ↦ omega (arith, one.0, other.0, same)
        | inr other ↦ omega (arith, one.0, one.1, other.0, other.1, same, less)
      ]
      | inr one ↦ elim (wraps_once (p + due) m (omega (arith, less, below))) [
        | inl other ↦ omega (arith, one.0, one.1, other.0, other.1, same, low)
        | inr other ↦ omega (arith, one.0, other.0, same)
      ]
    ]
