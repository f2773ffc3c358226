-- Locked registers stay so, whatever kinds and kings the nodes obey.
use Rattle.std.proofs.Common.{◌≡◌, ℕ, zero, suc, ◌+◌, ◌-◌, ◌*◌, ◌<◌, ◌≤◌, Bool, false, ap, subst}
use Rattle.std.proofs.Common.{arith, add-zero}
use Rattle.sync_types.specs.declared.states.Reg.{Reg}
use Rattle.counting.specs.Places.{places}
use Rattle.construction.specs.PhaseKing.{locked_at}
use Rattle.phase_king.specs.Hearing.{Obeys, AllLocked}
use Rattle.phase_king.proofs.Rounds.{persists}
use Rattle.halving_plan.specs.Level.{StaysLocked}

-- a value after so many rounds
after : (ℕ → ℕ) → ℕ → ℕ → ℕ
after next zero z = z
after next (suc y) z = next (after next y z)

module _ (n f : ℕ) (next : ℕ → ℕ) (faulty : ℕ → Bool) (quorum : 3 * f < n)
    (few : places faulty n ≤ f) (from last : ℕ) (registers : ℕ → ℕ → Reg)
    (kinds kings : ℕ → ℕ → ℕ) (obey : (r v : ℕ) → from ≤ r → r < last → v < n → faulty v ≡ false
    → Obeys n f next faulty (registers r) (kinds r v) (kings r v) (registers r v)
    (registers (r + 1) v)) where
  stays : (s z : ℕ) → from ≤ s → AllLocked n faulty (registers s) z → (y : ℕ)
      → s + y ≤ last → AllLocked n faulty (registers (s + y)) (after next y z)
  unfolding after
  stays s z lo all zero h = rw add-zero all
  stays s z lo all (suc y) h = λ v vlt ok.
      let e : s + y + 1 ≡ s + suc y = omega arith in
      subst (λ r. registers r v ≡ locked_at (next (after next y z))) e
      (persists n f next faulty quorum few (registers (s + y)) (after next y z) (kinds (s + y) v)
      (kings (s + y) v) v (registers (s + y + 1) v) (stays s z lo all y (omega arith)) vlt ok
      (obey (s + y) v (omega arith) (omega arith) vlt ok))

  -- from a locked configuration on
  pub stays_from : (s z : ℕ) → from ≤ s → AllLocked n faulty (registers s) z
      → StaysLocked n next faulty s last registers
  unfolding after
  stays_from s z lo all = record {
    value = λ r. after next (r - s) z;
    locked = λ r slo hi.
        let e : s + (r - s) ≡ r = omega arith in
        subst (λ q. AllLocked n faulty (registers q) (after next (r - s) z)) e
        (stays s z lo all (r - s) (omega arith));
    grows = λ r slo hi.
        let e : r + 1 - s ≡ suc (r - s) = omega arith in
        ap (λ y. after next y z) e;
  }
