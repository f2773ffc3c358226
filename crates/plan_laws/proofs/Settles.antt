-- If the sound blocks count for a span, the registers are locked at its end.
use Rattle.std.proofs.Common.{◌⊎◌, ℕ, ◌+◌, ◌*◌, ◌<◌, ◌≤◌, Bool, inl, inr, arith}
use Rattle.std.proofs.lemmas.Bool.{cases_lt}
use Rattle.sync_types.specs.declared.states.Reg.{Reg}
use Rattle.counting.specs.Places.{places}
use Rattle.construction.specs.Plans.{Level, group_size, span_of}
use Rattle.plan_laws.specs.Hearing.{RegistersStep}
use Rattle.plan_laws.specs.Level.{LevelPremises, faults_in, BlockCounts, StaysLocked}
use Rattle.plan_laws.proofs.ExplainedLevels.{explained_locks, span_is_explained}
use Rattle.plan_laws.proofs.Locked.{stays_from}

module _ (level : Level) (n f modulus : ℕ) (next : ℕ → ℕ) (faulty : ℕ → Bool)
    (stands : LevelPremises level n f modulus) (inner : 3 * f < n)
    (few : places faulty (group_size level n) ≤ level.faults)
    (t last : ℕ) (outputs : ℕ → ℕ → ℕ) (registers : ℕ → ℕ → Reg)
    (steps : RegistersStep level n next faulty t last outputs registers)
    (counts : (i : ℕ) → i < level.blocks → faults_in n faulty i ≤ f
    → BlockCounts level n modulus t faulty outputs i)
  where
    settles_by : (last < t + span_of level) ⊎ (t + span_of level ≤ last)
        → StaysLocked (group_size level n) next faulty (t + span_of level) last registers
    settles_by (inl short) =
        record {
          value = λ r. 0;
          locked = λ r lo hi. absurd (omega arith);
          grows = λ r lo hi. absurd (omega arith);
        }
    settles_by (inr long) =
        let why = span_is_explained level n f modulus faulty stands few (omega arith) t last outputs
        long counts in
        let z = explained_locks level n f modulus next faulty stands inner few t last outputs
        registers steps why.t why.b why.s why.k why.begins why.explains in
        let begins = why.begins in
        let ends = why.ends in
        let phase = why.explains.ends in
        let after = why.explains.begins in
        let s = stays_from level n next faulty stands.quorum few t last outputs registers steps
        (why.s + 3) z.0 (omega arith) z.1 in
        record {
          value = s.value;
          locked = λ r lo hi. s.locked r (omega arith) hi;
          grows = λ r lo hi. s.grows r (omega arith) hi;
        }

    pub settles : StaysLocked (group_size level n) next faulty (t + span_of level) last registers
    settles = settles_by (cases_lt last (t + span_of level))
