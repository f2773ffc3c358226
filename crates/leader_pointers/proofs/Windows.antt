-- The common window, by induction on the number of blocks.
use Rattle.std.proofs.Common.{◌≡◌, ◌⊎◌, ℕ, zero, suc, ◌+◌, ◌-◌, ◌*◌, ◌/◌, ◌%◌, ◌<◌, ◌≤◌, Bool, true}
use Rattle.std.proofs.Common.{false, refl, sym, ap, ◌∙◌, subst, inl, inr, arith}
use Rattle.std.proofs.Math.Nat.{mod-mod, mod-add-mod, mul-le-mul_left, div-eq_of_lt-le, pow-zero}
use Rattle.std.proofs.Math.Nat.{add-zero}
use Rattle.std.proofs.lemmas.Nat.{mod-mul-add}
use Rattle.std.proofs.lemmas.Bool.{cases_Bool, true≢false, cases_lt}
use Rattle.construction.specs.Plans.{interval_of}
use Rattle.construction.specs.Pointers.{pointer_of, part_of}
use Rattle.leader_pointers.specs.Windows.{CountsFor, BlocksMeetAtEachLeader}
use Rattle.leader_pointers.proofs.Intervals.{interval_pos, interval_suc, below_suc, pointer_unseen}
use Rattle.leader_pointers.proofs.Intervals.{part_unseen}

reach_by : (m a b : ℕ) → b < m → (b < a % m) ⊎ (a % m ≤ b)
    → (q : ℕ) × (a ≤ q) × (q < a + m) × (q % m ≡ b)
reach_by m a b h (inl g) =
    ((a / m + 1) * m + b, omega arith, omega arith, mod-mul-add (a / m + 1) m b h)
reach_by m a b h (inr g) = (a / m * m + b, omega arith, omega arith, mod-mul-add (a / m) m b h)

-- some number at least a and below a + m is b modulo m
reach : (m a b : ℕ) → b < m → (q : ℕ) × (a ≤ q) × (q < a + m) × (q % m ≡ b)
reach m a b h = reach_by m a b h (cases_lt b (a % m))

-- within 2 m d of y there are d numbers in a row whose quotient by d is b modulo m
aligned : (d m b y : ℕ) → 0 < d → b < m
    → (e : ℕ) × (y ≤ e) × (e + d ≤ y + d * (2 * m)) × ((z : ℕ) → e ≤ z → z < e + d → z / d % m ≡ b)
aligned d m b y pos h =
    let q = reach m (y / d + 1) b h in
    let up : d * (y / d + 1) ≤ d * q.0 = mul-le-mul_left d q.1 in
    let down : d * (q.0 + 1) ≤ d * (y / d + 1 + m) = mul-le-mul_left d (omega arith) in
    let room : d * 1 ≤ d * m = mul-le-mul_left d (omega arith) in (
      q.0 * d,
      omega arith,
      omega arith,
      λ z lo hi. ap (λ k. k % m) (div-eq_of_lt-le {k = q.0} d {m = z} lo (omega arith))
          ∙ q.3,
    )

-- the window from s on if the blocks below h are looked at, and block i has the output c i + x at x
Meeting : (beat m b : ℕ) (sound : ℕ → Bool) (c : ℕ → ℕ) (h s : ℕ) → Type 0
Meeting beat m b sound c h s =
    (w : ℕ) × (s ≤ w) × (w + beat ≤ s + interval_of beat m h)
    × ((i : ℕ) → i < h → (x : ℕ) → sound i ≡ true → w ≤ x → x < w + beat
    → pointer_of beat m i (c i + x) ≡ b)

-- one more block, sound or not
with_block : (beat m b : ℕ) (sound : ℕ → Bool) (c : ℕ → ℕ) (h s : ℕ) → 1 ≤ beat → b < m
    → (sound h ≡ true) ⊎ (sound h ≡ false) → ((s : ℕ) → Meeting beat m b sound c h s)
    → Meeting beat m b sound c (suc h) s
unfolding Meeting
with_block beat m b sound c h s p q (inl f) all =
    let a = aligned (interval_of beat m h) m b (c h + s) (interval_pos beat m h p (omega arith))
    q in
    let w = all (a.0 - c h) in (
      w.0,
      omega arith,
      omega (arith, interval_suc beat m h),
      below_suc
          (λ i. (x : ℕ) → sound i ≡ true → w.0 ≤ x → x < w.0 + beat
          → pointer_of beat m i (c i + x) ≡ b)
          h w.3
          (λ x g lo hi. a.3 (c h + x) (omega arith) (omega arith)),
    )
with_block beat m b sound c h s p q (inr f) all =
    let w = all s in
    let room : interval_of beat m h * 1
    ≤ interval_of beat m h * (2 * m) = mul-le-mul_left (interval_of beat m h) (omega arith) in (
      w.0,
      omega arith,
      omega (arith, interval_suc beat m h),
      below_suc
          (λ i. (x : ℕ) → sound i ≡ true → w.0 ≤ x → x < w.0 + beat
          → pointer_of beat m i (c i + x) ≡ b)
          h w.3
          (λ x g lo hi. absurd (true≢false (sym g ∙ f))),
    )

meeting : (beat m b : ℕ) (sound : ℕ → Bool) (c : ℕ → ℕ) (h s : ℕ) → 1 ≤ beat → b < m
    → Meeting beat m b sound c h s
unfolding Meeting
meeting beat m b sound c zero s p q =
    (s, omega arith, rw pow-zero (omega arith), λ i lt. absurd (omega arith))
meeting beat m b sound c (suc h) s p q =
    with_block beat m b sound c h s p q (cases_Bool (sound h))
    (λ s. meeting beat m b sound c h s p q)

-- the output x rounds after t, modulo the modulus
counted : (modulus t rounds : ℕ) (o : ℕ → ℕ) → CountsFor modulus t rounds o → (x : ℕ) → x < rounds
    → o (t + x) % modulus ≡ (o t + x) % modulus
counted modulus t rounds o h zero lt = simp add-zero refl
counted modulus t rounds o h (suc x) lt =
    let e : t + suc x ≡ t + x + 1 = omega arith in
    let f : o t + x + 1 ≡ o t + suc x = omega arith in
    ap (λ r. o r % modulus) e
    ∙ (ap (λ y. y % modulus) (h.grows (t + x) (omega arith) (omega arith))
    ∙ (mod-mod (o (t + x) + 1) modulus
    ∙ (sym (mod-add-mod (o (t + x)) modulus 1)
    ∙ (ap (λ y. (y + 1) % modulus) (counted modulus t rounds o h x (omega arith))
    ∙ (mod-add-mod (o t + x) modulus 1
    ∙ ap (λ y. y % modulus) f)))))

-- the pointer of block i is that of an output that goes on without a modulus
pointer_counted : (beat m k modulus t i : ℕ) (o : ℕ → ℕ) → 1 ≤ beat → 1 ≤ m
    → modulus % interval_of beat m k ≡ 0 → i < k → CountsFor modulus t (interval_of beat m k) o
    → (x : ℕ) → x < interval_of beat m k
    → pointer_of beat m i (o (t + x)) ≡ pointer_of beat m i (o t + x)
pointer_counted beat m k modulus t i o p q whole lt h x xlt =
    sym (pointer_unseen beat m k modulus (o (t + x)) i p q whole lt)
    ∙ (ap (pointer_of beat m i) (counted modulus t (interval_of beat m k) o h x xlt)
    ∙ pointer_unseen beat m k modulus (o t + x) i p q whole lt)

-- and so is the part
pub part_counted : (beat m k modulus t : ℕ) (o : ℕ → ℕ) → modulus % interval_of beat m k ≡ 0
    → CountsFor modulus t (interval_of beat m k) o
    → (x : ℕ) → x < interval_of beat m k → part_of beat (o (t + x)) ≡ part_of beat (o t + x)
part_counted beat m k modulus t o whole h x xlt =
    sym (part_unseen beat m k modulus (o (t + x)) whole)
    ∙ (ap (part_of beat) (counted modulus t (interval_of beat m k) o h x xlt)
    ∙ part_unseen beat m k modulus (o t + x) whole)

pub meet : BlocksMeetAtEachLeader
unfolding Meeting
meet beat m k modulus t b sound o p q whole counts =
    let w = meeting beat m b sound (λ i. o i t) k 0 p q in
    record {
      start = t + w.0;
      begins = omega arith;
      ends = omega arith;
      points = λ i r lt g lo hi.
          let x : ℕ = r - t in
          let e : r ≡ t + x = omega arith in
          subst (λ r. pointer_of beat m i (o i r) ≡ b) (sym e)
          (pointer_counted beat m k modulus t i (o i) p (omega arith) whole lt
          (counts i lt g) x (omega arith)
          ∙ w.3 i lt x g (omega arith) (omega arith));
    }
