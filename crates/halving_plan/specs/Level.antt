-- The laws of one level over two halves. What is said of registers is said of those of level
-- states.
use Rattle.std.specs.Prelude.{◌≡◌, ◌⊎◌, ℕ, ◌+◌, ◌%◌, ◌<◌, ◌≤◌, Bool, false}
use Rattle.sync_types.specs.declared.states.Reg.{Reg}
use Rattle.counting.specs.Places.{places}
use Rattle.phase_king.specs.Hearing.{AllLocked}
use Rattle.halving_plan.specs.Halves.{Halves, Halved, faults_of, left_period, right_period}
use Rattle.halving_plan.specs.Halves.{left_wait, right_wait}
use Rattle.halving_plan.specs.LevelStates.{LevelState}
use Rattle.halving_plan.specs.Hearing.{LevelStatesStep}

-- how many of so many nodes from the first on are faulty
abbrev pub faults_in : (first nodes : ℕ) (faulty : ℕ → Bool) → ℕ
faults_in first nodes faulty = places (λ i. faulty (first + i)) nodes

-- However the faults of the group fall, one half has no more than it tolerates.
abbrev pub OneHalfIsSound : Type 0
OneHalfIsSound = (halves : Halves) (faulty : ℕ → Bool)
    → Halved halves → places faulty halves.nodes ≤ faults_of halves
    → (faults_in 0 halves.left_nodes faulty ≤ halves.left_faults)
    ⊎ (faults_in halves.left_nodes halves.right_nodes faulty ≤ halves.right_faults)

-- The nodes from the first on tolerate their faults, and from configuration t on, to the last one,
-- the correct ones of them have one output, which goes to one more, modulo the period.
pub record HalfCounts (first nodes faults period : ℕ) (faulty : ℕ → Bool) (t last : ℕ)
    (outputs : ℕ → ℕ → ℕ) : Type 0 where
  pub few : faults_in first nodes faulty ≤ faults
  pub output : ℕ → ℕ
  pub starts : output t < period
  pub grows : (r : ℕ) → t ≤ r → r < last → output (r + 1) ≡ (output r + 1) % period
  pub common : (r u : ℕ) → t ≤ r → r ≤ last → u < nodes → faulty (first + u) ≡ false
      → outputs r (first + u) ≡ output r

abbrev pub LeftCounts : (halves : Halves) (faulty : ℕ → Bool) (t last : ℕ) (outputs : ℕ → ℕ → ℕ)
    → Type 0
LeftCounts halves faulty t last outputs =
    HalfCounts 0 halves.left_nodes halves.left_faults (left_period halves) faulty t last outputs

abbrev pub RightCounts : (halves : Halves) (faulty : ℕ → Bool) (t last : ℕ) (outputs : ℕ → ℕ → ℕ)
    → Type 0
RightCounts halves faulty t last outputs =
    HalfCounts halves.left_nodes halves.right_nodes halves.right_faults (right_period halves) faulty
    t last outputs

-- From one configuration on, to the last one, the registers of all correct nodes are locked at one
-- value, which goes on to the next one each round.
pub record StaysLocked (nodes : ℕ) (next : ℕ → ℕ) (faulty : ℕ → Bool) (from last : ℕ)
    (registers : ℕ → ℕ → Reg) : Type 0 where
  pub value : ℕ → ℕ
  pub locked : (r : ℕ) → from ≤ r → r ≤ last → AllLocked nodes faulty (registers r) (value r)
  pub grows : (r : ℕ) → from ≤ r → r < last → value (r + 1) ≡ next (value r)

-- If the left half counts, the registers are locked two of its periods later. If the right half
-- counts, they are so many phases of its kings and two rounds later. The other half is free, and so
-- are the level states in configuration s.
abbrev pub HalvesSettle : Type 0
HalvesSettle = (halves : Halves) (next : ℕ → ℕ) (faulty : ℕ → Bool)
    → Halved halves → places faulty halves.nodes ≤ faults_of halves
    → (s last : ℕ) (outputs : ℕ → ℕ → ℕ) (states : ℕ → ℕ → LevelState)
    → LevelStatesStep halves next faulty s last outputs states → (t : ℕ) → s ≤ t
    → (LeftCounts halves faulty t last outputs
    → StaysLocked halves.nodes next faulty (t + left_wait halves) last
    (λ r v. (states r v).register))
    × (RightCounts halves faulty t last outputs
    → StaysLocked halves.nodes next faulty (t + right_wait halves) last
    (λ r v. (states r v).register))

-- If the registers are locked in configuration t, they stay so, whatever the halves do.
abbrev pub LockedStaysLocked : Type 0
LockedStaysLocked = (halves : Halves) (next : ℕ → ℕ) (faulty : ℕ → Bool)
    → Halved halves → places faulty halves.nodes ≤ faults_of halves
    → (t last : ℕ) (outputs : ℕ → ℕ → ℕ) (states : ℕ → ℕ → LevelState)
    → LevelStatesStep halves next faulty t last outputs states
    → (value : ℕ) → AllLocked halves.nodes faulty (λ v. (states t v).register) value
    → StaysLocked halves.nodes next faulty t last (λ r v. (states r v).register)
