-- The numbers of a counter on which a layer stands.
use Rattle.std.specs.Prelude.{ℕ, ◌*◌, ◌^◌, ◌<◌, ◌≤◌}
use Rattle.construction.specs.Plans.{Plan, plan_nodes, plan_faults, plan_modulus, plan_depth}
use Rattle.counter_core.specs.Meanings.{Meaning}

-- So many nodes, of which so many may be faulty, count by the modulus, and a state has so many
-- registers.
pub record Numbers : Type 0 where
  pub nodes : ℕ
  pub faults : ℕ
  pub modulus : ℕ
  pub depth : ℕ

-- less than a third of at most 256 nodes may be faulty, they count by 2 to 2^40, and a state has at
-- most 1000 registers
pub record AreNumbers (numbers : Numbers) : Type 0 where
  pub quorum : 3 * numbers.faults < numbers.nodes
  pub few : numbers.nodes ≤ 256
  pub least : 2 ≤ numbers.modulus
  pub most : numbers.modulus ≤ 2 ^ 40
  pub shallow : numbers.depth ≤ 1000

-- those of a counter
abbrev pub numbers_in : Meaning → Numbers
numbers_in counter = record {
  nodes = counter.nodes;
  faults = counter.faults;
  modulus = counter.modulus;
  depth = counter.depth;
}

-- those of a plan's counter
abbrev pub numbers_of : Plan → Numbers
numbers_of plan = record {
  nodes = plan_nodes plan;
  faults = plan_faults plan;
  modulus = plan_modulus plan;
  depth = plan_depth plan;
}
