-- How the registers of a group go from one configuration to the next, each node hearing lists of
-- its own. The group has the level's blocks of n nodes each, and its spares after them. Inner
-- outputs, which the blocks' nodes alone have, and registers are given by place.
use Rattle.std.specs.Prelude.{◌≡◌, ℕ, ◌+◌, ◌*◌, ◌/◌, ◌%◌, ◌<◌, ◌≤◌, List, length, Bool, false}
use Rattle.std.specs.Prelude.{slice_index}
use Rattle.sync_types.specs.declared.states.Reg.{Reg}
use Rattle.construction.specs.Plans.{Level, group_size}
use Rattle.construction.specs.Votes.{beat_heard}
use Rattle.phase_king.specs.Hearing.{Obeys}

-- what a node, a spare or not, hears of the inner outputs of so many nodes: the true one of each
-- correct node, and anything of a faulty one
pub record HearsOutputs (nodes : ℕ) (faulty : ℕ → Bool) (outputs : ℕ → ℕ)
    (heard : List ℕ) : Type 0 where
  pub size : length heard ≡ nodes
  pub honest : (u : ℕ) → u < nodes → faulty u ≡ false → slice_index heard u ≡ outputs u

-- A node's register goes from own to new: the node makes a beat of the inner outputs that it hears,
-- and obeys the kind and the king of that beat on the values that it hears.
pub record StepsRegister (level : Level) (n : ℕ) (next : ℕ → ℕ) (faulty : ℕ → Bool)
    (outputs : ℕ → ℕ) (old : ℕ → Reg) (own new : Reg) : Type 0 where
  pub heard : List ℕ
  pub hears : HearsOutputs (level.blocks * n) faulty outputs heard
  pub obeys : Obeys (group_size level n) level.faults next faulty old (beat_heard level n heard % 3)
      (beat_heard level n heard / 3) own new

-- From configuration t on, to the last one, the register of each correct node steps. Outputs and
-- registers are given by configuration and place.
abbrev pub RegistersStep : (level : Level) (n : ℕ) (next : ℕ → ℕ) (faulty : ℕ → Bool) (t last : ℕ)
    (outputs : ℕ → ℕ → ℕ) (registers : ℕ → ℕ → Reg) → Type 0
RegistersStep level n next faulty t last outputs registers = (r v : ℕ) → t ≤ r → r < last
    → v < group_size level n → faulty v ≡ false
    → StepsRegister level n next faulty (outputs r) (registers r) (registers r v)
    (registers (r + 1) v)
