-- Few blocks have too many faulty nodes, so that some leader's block is sound.
use Rattle.std.proofs.Common.{◌≡◌, ℕ, zero, suc, ◌+◌, ◌*◌, ◌<◌, ◌≤◌, Bool, true, false, not}
use Rattle.std.proofs.Common.{if◌then◌else◌, refl, arith}
use Rattle.std.specs.Prelude.{nat_le}
use Rattle.std.proofs.Math.Nat.{lt_of_mul-lt-mul_left, suc-mul}
use Rattle.std.proofs.lemmas.Bool.{leb-false, not-false}
use Rattle.counting.specs.Places.{places}
use Rattle.counting.proofs.Places.{stretches, shorter, one_fails}
use Rattle.construction.specs.Plans.{Level, group_size, leaders_of}
use Rattle.plan_laws.specs.Level.{LevelPremises, faults_in}

-- whether block i has at most f faulty nodes
abbrev pub sound : (n f : ℕ) (faulty : ℕ → Bool) (i : ℕ) → Bool
sound n f faulty i = nat_le (faults_in n faulty i) f

unsound_step : (b : Bool) (f m : ℕ) → nat_le m f ≡ b → (f + 1) * (if not b then 1 else 0) ≤ m
unsound_step true f m e = omega arith
unsound_step false f m e = omega (arith, leb-false m f e)

-- each block that is not sound has f + 1 faulty nodes
unsound_blocks : (n f : ℕ) (faulty : ℕ → Bool) (k : ℕ)
    → (f + 1) * places (λ i. not (sound n f faulty i)) k ≤ places faulty (k * n)
unsound_blocks n f faulty zero = omega arith
unsound_blocks n f faulty (suc k) =
    let m = faults_in n faulty k in
    rw (suc-mul, stretches faulty (k * n) n)
    (omega (arith, unsound_blocks n f faulty k, unsound_step (nat_le m f) f m refl))

module _ (level : Level) (n f modulus : ℕ) (faulty : ℕ → Bool)
    (stands : LevelPremises level n f modulus)
    (few : places faulty (group_size level n) ≤ level.faults) where
  -- so fewer blocks than there are leaders are not sound
  pub few_unsound : places (λ i. not (sound n f faulty i)) level.blocks < leaders_of level
  few_unsound = lt_of_mul-lt-mul_left (f + 1)
      (let b = unsound_blocks n f faulty level.blocks in let h = stands.share in
      let less = shorter faulty (level.blocks * n) (group_size level n) (omega arith) in
      omega arith)

  -- and the block of some leader is
  pub sound_leader : (b : ℕ) × (b < leaders_of level) × (sound n f faulty b ≡ true)
  sound_leader =
      let h = stands.blocks in
      let x = one_fails (λ i. not (sound n f faulty i)) (leaders_of level)
      (omega (
        arith,
        few_unsound,
        shorter (λ i. not (sound n f faulty i)) (leaders_of level) level.blocks
            (omega arith),
      )) in
      (x.0, x.1, not-false (sound n f faulty x.0) x.2)
