-- Locked registers stay so, whatever is heard.
use Rattle.std.proofs.Common.{◌≡◌, ℕ, zero, suc, ◌+◌, ◌-◌, ◌*◌, ◌/◌, ◌%◌, ◌<◌, ◌≤◌, Bool, ap, subst}
use Rattle.std.proofs.Common.{arith, add-zero}
use Rattle.sync_types.specs.declared.states.Reg.{Reg}
use Rattle.counting.specs.Places.{places}
use Rattle.construction.specs.Plans.{Level, group_size}
use Rattle.construction.specs.Votes.{beat_heard}
use Rattle.construction.specs.PhaseKing.{locked_at}
use Rattle.phase_king.specs.Hearing.{AllLocked}
use Rattle.phase_king.proofs.Rounds.{persists}
use Rattle.plan_laws.specs.Hearing.{RegistersStep}
use Rattle.plan_laws.specs.Level.{StaysLocked}

-- a value after so many rounds
after : (ℕ → ℕ) → ℕ → ℕ → ℕ
after next zero z = z
after next (suc y) z = next (after next y z)

module _ (level : Level) (n : ℕ) (next : ℕ → ℕ) (faulty : ℕ → Bool)
    (quorum : 3 * level.faults < group_size level n)
    (few : places faulty (group_size level n) ≤ level.faults) (t last : ℕ)
    (outputs : ℕ → ℕ → ℕ) (registers : ℕ → ℕ → Reg)
    (steps : RegistersStep level n next faulty t last outputs registers) where
  stays : (s z : ℕ) → t ≤ s → AllLocked (group_size level n) faulty (registers s) z → (y : ℕ)
      → s + y ≤ last → AllLocked (group_size level n) faulty (registers (s + y)) (after next y z)
  unfolding after
  stays s z lo all zero h = rw add-zero all
  stays s z lo all (suc y) h = λ v vlt ok.
      let e : s + y + 1 ≡ s + suc y = omega arith in
      let step = steps (s + y) v (omega arith) (omega arith) vlt ok in
      subst (λ r. registers r v ≡ locked_at (next (after next y z))) e
      (persists (group_size level n) level.faults next faulty quorum few (registers (s + y))
      (after next y z) (beat_heard level n step.heard % 3) (beat_heard level n step.heard / 3) v
      (registers (s + y + 1) v)
      (stays s z lo all y (omega arith)) vlt ok step.obeys)

  -- from a locked configuration on
  pub stays_from : (s z : ℕ) → t ≤ s → AllLocked (group_size level n) faulty (registers s) z
      → StaysLocked (group_size level n) next faulty s last registers
  unfolding after
  stays_from s z lo all = record {
    value = λ r. after next (r - s) z;
    locked = λ r slo hi.
        let e : s + (r - s) ≡ r = omega arith in
        subst (λ q. AllLocked (group_size level n) faulty (registers q) (after next (r - s) z)) e
        (stays s z lo all (r - s) (omega arith));
    grows = λ r slo hi.
        let e : r + 1 - s ≡ suc (r - s) = omega arith in
        ap (λ y. after next y z) e;
  }

  pub stays_locked : (z : ℕ) → AllLocked (group_size level n) faulty (registers t) z
      → StaysLocked (group_size level n) next faulty t last registers
  stays_locked z all = stays_from t z (omega arith) all
