-- A level over blocks of a counter, as a value: the counter and the level.
use Rattle.std.specs.Prelude.{ℕ, ◌%◌, List, map}
use Rattle.std.specs.List.{range_with_len}
use Rattle.sync_types.specs.States.{State}
use Rattle.construction.specs.Plans.{Level}
use Rattle.construction.specs.Steps.{state_of}
use Rattle.counter_core.specs.Meanings.{Meaning}
use Rattle.plan_numbers.specs.declared.numbers.Below.{Below}

-- the counter of which each block is one, and the level above
pub record Group (A : Type 0) : Type 0 where
  pub inner : A
  pub level : Level

-- the numbers of a counter, as those of what stands below a level; the bits of its states play no
-- part
abbrev pub counter_below : Meaning → Below
counter_below m = record {
  nodes = m.nodes;
  faults = m.faults;
  modulus = m.modulus;
  bound = m.bound;
  bits = 0;
}

-- the inner outputs of the first nodes heard, by place
abbrev pub outputs_of : Meaning → (nodes : ℕ) → List State → List ℕ
outputs_of m nodes heard =
    map (λ u. m.shows (u % m.nodes) (state_of heard u)) (range_with_len 0 nodes)
