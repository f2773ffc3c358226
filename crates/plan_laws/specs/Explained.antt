-- Why registers lock: a window in which all sound blocks point to one leader, and in it a phase
-- under a correct king. Inner outputs are given by configuration and place.
use Rattle.std.specs.Prelude.{◌≡◌, ℕ, ◌+◌, ◌*◌, ◌%◌, ◌<◌, ◌≤◌, Bool, false}
use Rattle.sync_types.specs.declared.states.Reg.{Reg}
use Rattle.counting.specs.Places.{places}
use Rattle.construction.specs.Plans.{Level, group_size, leaders_of, beat_of, span_of}
use Rattle.construction.specs.Pointers.{pointer_of, part_of}
use Rattle.phase_king.specs.Hearing.{AllLocked}
use Rattle.plan_laws.specs.Hearing.{RegistersStep}
use Rattle.plan_laws.specs.Level.{LevelPremises, faults_in, BlockCounts}

-- From configuration t on, for a beat, all correct nodes of sound blocks point to block b, which is
-- sound; its correct nodes have one part of the beat, which grows. In configuration s of the window
-- it begins the phase of node k, which is correct, and the phase ends in the window and by the last
-- configuration.
pub record Explains (level : Level) (n f : ℕ) (faulty : ℕ → Bool) (last : ℕ) (outputs : ℕ → ℕ → ℕ)
    (t b s k : ℕ) : Type 0 where
  pub leader : b < leaders_of level
  pub sound : faults_in n faulty b ≤ f
  pub window : t + beat_of level ≤ last + 1
  pub points : (r i j : ℕ) → t ≤ r → r < t + beat_of level → i < level.blocks
      → faults_in n faulty i ≤ f → j < n → faulty (i * n + j) ≡ false
      → pointer_of (beat_of level) (leaders_of level) i (outputs r (i * n + j)) ≡ b
  pub part : ℕ → ℕ
  pub parts : (r j : ℕ) → t ≤ r → r < t + beat_of level → j < n → faulty (b * n + j) ≡ false
      → part_of (beat_of level) (outputs r (b * n + j)) ≡ part r
  pub grows : (r : ℕ) → t ≤ r → r + 1 < t + beat_of level
      → part (r + 1) ≡ (part r + 1) % beat_of level
  pub begins : t ≤ s
  pub ends : s + 3 ≤ t + beat_of level
  pub within : s + 3 ≤ last
  pub phase : part s ≡ 3 * k
  pub king : faulty k ≡ false

-- What is explained is locked.
abbrev pub ExplainedLocks : Type 0
ExplainedLocks = (level : Level) (n f modulus : ℕ) (next : ℕ → ℕ) (faulty : ℕ → Bool)
    → LevelPremises level n f modulus → 3 * f < n → places faulty
    (group_size level n) ≤ level.faults
    → (from last : ℕ) (outputs : ℕ → ℕ → ℕ) (registers : ℕ → ℕ → Reg)
    → RegistersStep level n next faulty from last outputs registers
    → (t b s k : ℕ) → from ≤ t → Explains level n f faulty last outputs t b s k
    → (value : ℕ) × AllLocked (group_size level n) faulty (registers (s + 3)) value

-- an explanation whose window lies between two configurations
pub record IsExplained (level : Level) (n f : ℕ) (faulty : ℕ → Bool) (last : ℕ)
    (outputs : ℕ → ℕ → ℕ) (from to : ℕ) : Type 0 where
  pub t : ℕ
  pub b : ℕ
  pub s : ℕ
  pub k : ℕ
  pub begins : from ≤ t
  pub ends : t + beat_of level ≤ to
  pub explains : Explains level n f faulty last outputs t b s k

-- If the sound blocks count for a span, there is an explanation within it.
abbrev pub SpanIsExplained : Type 0
SpanIsExplained = (level : Level) (n f modulus : ℕ) (faulty : ℕ → Bool)
    → LevelPremises level n f modulus → places faulty (group_size level n) ≤ level.faults → 0 < n
    → (t last : ℕ) (outputs : ℕ → ℕ → ℕ) → t + span_of level ≤ last
    → ((i : ℕ) → i < level.blocks → faults_in n faulty i ≤ f
    → BlockCounts level n modulus t faulty outputs i)
    → IsExplained level n f faulty last outputs t (t + span_of level)
