-- The laws of one level over blocks of n nodes that tolerate f faults each and count by a modulus.
-- Its spares stand after the blocks.
use Rattle.std.specs.Prelude.{◌≡◌, ℕ, ◌+◌, ◌*◌, ◌%◌, ◌<◌, ◌≤◌, Bool, false}
use Rattle.sync_types.specs.declared.states.Reg.{Reg}
use Rattle.counting.specs.Places.{places}
use Rattle.construction.specs.Plans.{Level, group_size, leaders_of, span_of}
use Rattle.leader_pointers.specs.Windows.{CountsFor}
use Rattle.phase_king.specs.Hearing.{AllLocked}
use Rattle.plan_laws.specs.Hearing.{RegistersStep}

-- the premises of the level over what stands below it
pub record LevelPremises (level : Level) (n f modulus : ℕ) : Type 0 where
  pub blocks : 3 ≤ level.blocks
  pub quorum : 3 * level.faults < group_size level n
  pub share : level.faults < (f + 1) * leaders_of level
  pub multiple : modulus % span_of level ≡ 0

-- how many nodes of block i are faulty
abbrev pub faults_in : (n : ℕ) (faulty : ℕ → Bool) (i : ℕ) → ℕ
faults_in n faulty i = places (λ j. faulty (i * n + j)) n

-- For a span from configuration t on the correct nodes of block i have one inner output, which goes
-- to one more in the next configuration, modulo the modulus.
pub record BlockCounts (level : Level) (n modulus t : ℕ) (faulty : ℕ → Bool) (outputs : ℕ → ℕ → ℕ)
    (i : ℕ) : Type 0 where
  pub output : ℕ → ℕ
  pub counts : CountsFor modulus t (span_of level) output
  pub common : (r j : ℕ) → t ≤ r → r < t + span_of level → j < n → faulty (i * n + j) ≡ false
      → outputs r (i * n + j) ≡ output r

-- From one configuration on, to the last one, the registers of all correct nodes are locked at one
-- value, which goes on to the next one each round.
pub record StaysLocked (nodes : ℕ) (next : ℕ → ℕ) (faulty : ℕ → Bool) (from last : ℕ)
    (registers : ℕ → ℕ → Reg) : Type 0 where
  pub value : ℕ → ℕ
  pub locked : (r : ℕ) → from ≤ r → r ≤ last → AllLocked nodes faulty (registers r) (value r)
  pub grows : (r : ℕ) → from ≤ r → r < last → value (r + 1) ≡ next (value r)

-- If each block with at most f faulty nodes counts for a span, the registers are locked from its
-- end on. The other blocks are free, and so are the registers in configuration t.
abbrev pub LevelSettles : Type 0
LevelSettles = (level : Level) (n f modulus : ℕ) (next : ℕ → ℕ) (faulty : ℕ → Bool)
    → LevelPremises level n f modulus → 3 * f < n → places faulty
    (group_size level n) ≤ level.faults
    → (t last : ℕ) (outputs : ℕ → ℕ → ℕ) (registers : ℕ → ℕ → Reg)
    → RegistersStep level n next faulty t last outputs registers
    → ((i : ℕ) → i < level.blocks → faults_in n faulty i ≤ f
    → BlockCounts level n modulus t faulty outputs i)
    → StaysLocked (group_size level n) next faulty (t + span_of level) last registers

-- If the registers are locked in configuration t, they stay so, whatever the inner outputs are.
abbrev pub LockedStaysLocked : Type 0
LockedStaysLocked = (level : Level) (n : ℕ) (next : ℕ → ℕ) (faulty : ℕ → Bool)
    → 3 * level.faults < group_size level n → places faulty (group_size level n) ≤ level.faults
    → (t last : ℕ) (outputs : ℕ → ℕ → ℕ) (registers : ℕ → ℕ → Reg)
    → RegistersStep level n next faulty t last outputs registers
    → (value : ℕ) → AllLocked (group_size level n) faulty (registers t) value
    → StaysLocked (group_size level n) next faulty t last registers
