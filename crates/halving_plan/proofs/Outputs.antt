-- What a half shows that counts modulo a period: it comes to each number, again and again.
use Rattle.std.proofs.Common.{◌≡◌, ℕ, zero, suc, ◌+◌, ◌-◌, ◌*◌, ◌%◌, ◌<◌, ◌≤◌, ap, ◌∙◌, sym}
use Rattle.std.proofs.Common.{⊎_elim, arith}
use Rattle.std.proofs.Math.Nat.{mod-eq_of_lt, mod-add-mod}
use Rattle.std.proofs.lemmas.Bool.{cases_lt}
use Rattle.std.proofs.lemmas.Nat.{mod-mul-add}

-- from so many rounds after configuration t on, it goes on from x, and again a period later
pub record Comes (period t last : ℕ) (output : ℕ → ℕ) (x : ℕ) : Type 0 where
  pub wait : ℕ
  pub soon : wait < period
  pub shows : (again d : ℕ) → x + d < period → t + wait + again * period + d ≤ last
      → output (t + wait + again * period + d) ≡ x + d

module _ (period t last : ℕ) (output : ℕ → ℕ) (starts : output t < period)
    (grows : (r : ℕ) → t ≤ r → r < last → output (r + 1) ≡ (output r + 1) % period) where
  after : (d : ℕ) → t + d ≤ last → output (t + d) ≡ (output t + d) % period
  after zero hi =
      let e : t + 0 ≡ t = omega arith in
      let g : output t ≡ output t + 0 = omega arith in
      ap output e ∙ (sym (mod-eq_of_lt starts) ∙ ap (λ x. x % period) g)
  after (suc d) hi =
      let e : t + suc d ≡ t + d + 1 = omega arith in
      let g : output t + d + 1 ≡ output t + suc d = omega arith in
      ap output e
      ∙ (grows (t + d) (omega arith) (omega arith)
      ∙ (ap (λ x. (x + 1) % period) (after d (omega arith))
      ∙ (mod-add-mod (output t + d) period 1
      ∙ ap (λ x. x % period) g)))

  comes_by : (x wait more : ℕ) → x < period → wait < period → output t + wait ≡ more * period + x
      → Comes period t last output x
  comes_by x wait more lt soon e = record {
    wait = wait;
    soon = soon;
    shows = λ again d below hi.
        let g : t + wait + again * period + d ≡ t + (wait + again * period + d) = omega arith in
        let h : output t + (wait + again * period + d) ≡ (more + again) * period + (x + d) =
        omega arith in
        ap output g
        ∙ (after (wait + again * period + d) (omega arith)
        ∙ (ap (λ y. y % period) h ∙ mod-mul-add (more + again) period (x + d) below));
  }

  pub comes : (x : ℕ) → x < period → Comes period t last output x
  comes x lt = ⊎_elim
      (λ less. comes_by x (x + period - output t) 1 lt (omega arith) (omega arith))
      (λ more. comes_by x (x - output t) 0 lt (omega arith) (omega arith))
      (cases_lt x (output t))
