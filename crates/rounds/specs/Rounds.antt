-- What is sent in a round of a machine, and what the liars say to one node.
use Rattle.std.specs.Prelude.{◌≡◌, ℕ, ◌<◌, List, length, slice_index, All}
use Rattle.sync_types.specs.States.{State}
use Rattle.construction.specs.Steps.{state_of}
use Rattle.machines.specs.Machines.{Machine, IsFront}

-- a configuration, in which states have so many registers, and who lies in it
pub record Sent : Type 0 where
  pub depth : ℕ
  pub faulty : List ℕ
  pub config : List State

-- a state of each liar, in the order of their ids; a node that lies says its own to itself
pub record AreLies (machine : Machine) (sent : Sent) (v : ℕ) (lies : List State) : Type 0 where
  pub size : length lies ≡ length sent.faulty
  pub deep : All (λ s. length s.registers ≡ sent.depth) lies
  pub fronts : (j : ℕ) → j < length sent.faulty
      → IsFront machine (slice_index sent.faulty j) (state_of lies j)
  pub own : (j : ℕ) → j < length sent.faulty → slice_index sent.faulty j ≡ v
      → state_of lies j ≡ state_of sent.config v
