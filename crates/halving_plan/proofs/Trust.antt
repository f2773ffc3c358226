-- Trust in the left half: what a node follows has been backed, and has gone on by one, since long.
-- What was seen, trusted and backed is given by configuration and place.
use Rattle.std.proofs.Common.{◌≡◌, ℕ, zero, suc, ◌+◌, ◌<◌, ◌≤◌, Bool, true, ◌&&◌, ◌||◌, eqb, leb}
use Rattle.std.proofs.Common.{⊎_elim, sym, ap, ◌∙◌, subst, arith, add-zero}
use Rattle.std.proofs.lemmas.Bool.{and_parts, and_from, or_cases, eqb-true}
use Rattle.std.proofs.lemmas.Bool.{leb-true, le-leb}
use Rattle.halving_plan.proofs.Correct.{IsCorrect}

-- how trust goes in rounds from s to last
pub record Trust (n : ℕ) (faulty : ℕ → Bool) (s last period : ℕ) (seen : ℕ → ℕ → ℕ)
    (trusted back : ℕ → ℕ → Bool) : Type 0 where
  pub below : (r v : ℕ) → s ≤ r → r < last → IsCorrect n faulty v → seen (r + 1) v < period
  pub goes : (r v : ℕ) → s ≤ r → r < last → IsCorrect n faulty v
      → trusted (r + 1) v
      ≡ (back r v && (eqb (seen (r + 1) v) (seen r v + 1) && (trusted r v || eqb (seen r v) 0)))
  pub one : (r v u : ℕ) → s ≤ r → r < last → IsCorrect n faulty v → IsCorrect n faulty u
      → back r v ≡ true → back r u ≡ true → seen r v ≡ seen r u
  pub all : (r v : ℕ) → s ≤ r → r < last → IsCorrect n faulty v
      → ((w : ℕ) → IsCorrect n faulty w → seen r w ≡ seen r v) → back r v ≡ true

-- the node follows the left half
pub record Follows (share seen : ℕ) (trusted back : Bool) : Type 0 where
  pub is_backed : back ≡ true
  pub is_trusted : trusted ≡ true
  pub high : share ≤ seen

pub follows_parts : (share seen : ℕ) (trusted back : Bool)
    → (back && (trusted && leb share seen)) ≡ true → Follows share seen trusted back
follows_parts share seen trusted back e =
    let p = and_parts back (trusted && leb share seen) e in
    let q = and_parts trusted (leb share seen) p.1 in
    record { is_backed = p.0; is_trusted = q.0; high = leb-true share seen q.1 }

pub follows_from : (share seen : ℕ) (trusted back : Bool) → Follows share seen trusted back
    → (back && (trusted && leb share seen)) ≡ true
follows_from share seen trusted back f =
    and_from back (trusted && leb share seen) f.is_backed
    (and_from trusted (leb share seen) f.is_trusted (le-leb share seen f.high))

module _ (n : ℕ) (faulty : ℕ → Bool) (s last period : ℕ) (seen : ℕ → ℕ → ℕ)
    (trusted back : ℕ → ℕ → Bool)
    (trust : Trust n faulty s last period seen trusted back) where
  -- what a node trusts went on by one each round since it was 0, and was backed
  came : (v : ℕ) → IsCorrect n faulty v → (r : ℕ) → s ≤ r → (d : ℕ) → r + d < last
      → d ≤ seen (r + d) v → back (r + d) v ≡ true → (0 < d → trusted (r + d) v ≡ true)
      → (back r v ≡ true) × (seen r v + d ≡ seen (r + d) v)
  came v c r lo zero hi low backed is =
      let e : r + 0 ≡ r = add-zero r in (
        subst (λ q. back q v ≡ true) e backed,
        add-zero (seen r v) ∙ ap (λ q. seen q v) (sym e),
      )
  came v c r lo (suc d) hi low backed is =
      let e : r + suc d ≡ r + d + 1 = omega arith in
      let now : trusted (r + d + 1) v ≡ true =
      subst (λ q. trusted q v ≡ true) e (is (omega arith)) in
      let p = and_parts (back (r + d) v) (eqb (seen (r + d + 1) v) (seen (r + d) v + 1)
      && (trusted (r + d) v || eqb (seen (r + d) v) 0))
      (sym (trust.goes (r + d) v (omega arith) (omega arith) c) ∙ now) in
      let q = and_parts (eqb (seen (r + d + 1) v) (seen (r + d) v + 1))
      (trusted (r + d) v || eqb (seen (r + d) v) 0) p.1 in
      let up : seen (r + d + 1) v ≡ seen (r + d) v + 1 =
      eqb-true (seen (r + d + 1) v) (seen (r + d) v + 1) q.0 in
      let low_now : suc d ≤ seen (r + d + 1) v = subst (λ k. suc d ≤ seen k v) e low in
      let before = came v c r lo d (omega arith) (omega arith) p.0
      (λ some. ⊎_elim (λ a. a)
      (λ z. let none = eqb-true (seen (r + d) v) 0 z in absurd (omega arith))
      (or_cases (trusted (r + d) v) (eqb (seen (r + d) v) 0) q.1)) in
      let same = before.1 in
      let all : seen r v + suc d ≡ seen (r + d + 1) v = omega arith in
      (before.0, all ∙ ap (λ k. seen k v) (sym e))

  -- two follows, no further apart than the first share is long, are of one share
  pub one_share : (share v u r d : ℕ) → IsCorrect n faulty v → IsCorrect n faulty u → s ≤ r
      → r + d < last → 0 < d → d ≤ share
      → Follows share (seen r v) (trusted r v) (back r v)
      → Follows share (seen (r + d) u) (trusted (r + d) u) (back (r + d) u)
      → seen r v + d ≡ seen (r + d) u
  one_share share v u r d vc uc lo hi some near first second =
      let high = second.high in
      let c = came u uc r lo d hi (omega arith) second.is_backed (λ more. second.is_trusted) in
      let same = trust.one r v u lo (omega arith) vc uc first.is_backed c.0 in
      let on = c.1 in
      omega arith
