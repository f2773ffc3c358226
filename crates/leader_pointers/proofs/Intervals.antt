-- The laws of intervals, and how they grow with the block.
use Rattle.std.proofs.Common.{◌≡◌, ℕ, zero, suc, ◌+◌, ◌*◌, ◌/◌, ◌%◌, ◌^◌, ◌<◌, ◌≤◌, sym, ap, ◌∙◌}
use Rattle.std.proofs.Common.{subst, ⊎_elim, arith}
use Rattle.std.proofs.Math.Nat.{div-add-mod, mod-add-mod, mul-le-mul_left, mul-pos, pow-suc}
use Rattle.std.proofs.Math.Nat.{one-le-pow, pow-le-pow_right, le_antisymm, mul-add-div}
use Rattle.std.proofs.Math.Nat.{mul-add-mod_self_left, add-div_right, add-mul-div_right}
use Rattle.std.proofs.Math.Nat.{add-mod_right, mod-mod_of_dvd, mul-mod_right}
use Rattle.std.proofs.lemmas.Nat.{div-mul-add}
use Rattle.std.proofs.lemmas.Nat.Gcd.{dvd_trans, dvd_of_mod-eq-zero}
use Rattle.std.proofs.lemmas.Bool.{cases_lt}
use Rattle.construction.specs.Plans.{interval_of}
use Rattle.construction.specs.Pointers.{pointer_of, part_of}
use Rattle.leader_pointers.specs.Intervals.{IntervalKeepsPointer, NextIntervalHasNextLeader}
use Rattle.leader_pointers.specs.Intervals.{PointerHasPeriod, ModulusIsUnseen}

pub interval_pos : (beat m i : ℕ) → 1 ≤ beat → 1 ≤ m → 1 ≤ interval_of beat m i
interval_pos beat m i p q = mul-pos p (one-le-pow i (2 * m) (omega arith))

-- the next block's interval is 2 m times as long
pub interval_suc : (beat m i : ℕ) → interval_of beat m (suc i) ≡ interval_of beat m i * (2 * m)
interval_suc beat m i = rw pow-suc (omega arith)

-- a later block's interval is no shorter
pub interval_le : (beat m i j : ℕ) → 1 ≤ m → i ≤ j → interval_of beat m i ≤ interval_of beat m j
interval_le beat m i j p h =
    mul-le-mul_left beat (pow-le-pow_right (let q : 0 < 2 * m = omega arith in q) h)

-- what holds below h and at h
pub below_suc : (P : ℕ → Type 0) (h : ℕ) → ((i : ℕ) → i < h → P i) → P h → (i : ℕ) → i < suc h → P i
below_suc P h below here i lt =
    ⊎_elim (λ g. below i g) (λ g. subst P (le_antisymm g (omega arith)) here) (cases_lt i h)

pub keeps_pointer : IntervalKeepsPointer
keeps_pointer beat m i o x whole lt =
    let d = interval_of beat m i in
    let e : o ≡ o / d * d = sym (div-add-mod o d) ∙ (omega (arith, whole)) in
    ap (λ y. y % m) (ap (λ y. (y + x) / d) e ∙ div-mul-add (o / d) d x lt)

pub next_leader : NextIntervalHasNextLeader
next_leader beat m i o p q =
    ap (λ y. y % m) (add-div_right o (interval_pos beat m i p q))
    ∙ sym (mod-add-mod (o / interval_of beat m i) m 1)

-- a quotient's remainder by m is that of m divisors more
period_of : (d m o : ℕ) → (o + m * d) / d % m ≡ o / d % m
period_of zero m o = ap (λ y. y / 0 % m) (let none : o + m * 0 ≡ o = omega arith in none)
period_of (suc d) m o =
    ap (λ y. y % m) (add-mul-div_right o m {z = suc d} (omega arith)) ∙ add-mod_right (o / suc d) m

pub has_period : PointerHasPeriod
has_period beat leaders i o = period_of (interval_of beat leaders i) leaders o

-- the span holds a whole number of periods of each block's pointer
pub turns : (beat m k i : ℕ) → i < k
    → (n : ℕ) × (interval_of beat m k ≡ interval_of beat m i * m * n)
turns beat m zero i lt = absurd (omega arith)
turns beat m (suc k) i lt =
    below_suc (λ i. (n : ℕ) × (interval_of beat m (suc k) ≡ interval_of beat m i * m * n)) k
    (λ i lt. let t = turns beat m k i lt in
    (t.0 * (2 * m), interval_suc beat m k ∙ ap (λ y. y * (2 * m)) t.1 ∙ (omega arith)))
    (2, interval_suc beat m k ∙ (omega arith)) i lt

-- a quotient's remainder does not see whole periods
turn_free : (d m n z x : ℕ) → 0 < d → z ≡ d * m * n → x % z / d % m ≡ x / d % m
turn_free d m n z x pos e =
    let f : z * (x / z) ≡ d * m * n * (x / z) = ap (λ y. y * (x / z)) e in
    let g : x ≡ d * (m * (n * (x / z))) + x % z = sym (div-add-mod x z) ∙ (omega arith) in
    sym
    (ap (λ y. y / d % m) g
    ∙ (ap (λ y. y % m) (mul-add-div pos (m * (n * (x / z))) (x % z))
    ∙ mul-add-mod_self_left m (n * (x / z)) (x % z / d)))

whole_turns : (s d m n modulus : ℕ) → s ≡ d * m * n → modulus % s ≡ 0
    → modulus ≡ d * m * (n * (modulus / s))
whole_turns s d m n modulus e h =
    let f : s * (modulus / s) ≡ d * m * n * (modulus / s) = ap (λ y. y * (modulus / s)) e in
    sym (div-add-mod modulus s) ∙ (omega arith)

pub pointer_unseen : (beat m k modulus o i : ℕ) → 1 ≤ beat → 1 ≤ m
    → modulus % interval_of beat m k ≡ 0 → i < k
    → pointer_of beat m i (o % modulus) ≡ pointer_of beat m i o
pointer_unseen beat m k modulus o i p q whole lt =
    let n = turns beat m k i lt in
    turn_free (interval_of beat m i) m (n.0 * (modulus / interval_of beat m k)) modulus o
    (interval_pos beat m i p q)
    (whole_turns (interval_of beat m k) (interval_of beat m i) m n.0 modulus n.1 whole)

pub part_unseen : (beat m k modulus o : ℕ) → modulus % interval_of beat m k ≡ 0
    → part_of beat (o % modulus) ≡ part_of beat o
part_unseen beat m k modulus o h =
    mod-mod_of_dvd beat o
    (dvd_trans beat (dvd_of_mod-eq-zero beat (mul-mod_right beat ((2 * m) ^ k)))
    (dvd_of_mod-eq-zero (interval_of beat m k) h))

pub unseen : ModulusIsUnseen
unseen beat m k modulus o p q whole = record {
  pointer = λ i lt. pointer_unseen beat m k modulus o i p q whole lt;
  part = part_unseen beat m k modulus o whole;
}
