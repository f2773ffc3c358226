-- The run of a script on a machine: configurations 0 to its last round.
use Rattle.std.specs.Prelude.{ℕ, zero, suc, ◌+◌, List, map, unwrap_or}
use Rattle.std.specs.List.{range_with_len}
use Rattle.sync_types.specs.States.{State}
use Rattle.machines.specs.Machines.{Machine}
use Rattle.adversary_script.specs.Scripts.{Script}
use Rattle.adversary_script.specs.Lookup.{hit_at}
pub use Rattle.adversary_script.specs.Rounds.{starts, lies_at, heard_at}
use Rattle.machine_runner.specs.Eras.{of_era}

-- The state of node v after round t. Every node, the puppets of faulty ones too, steps from what it
-- hears; if an era begins after the round, a node with a start line there is put into its state.
abbrev pub state_after : Machine → Script → (t : ℕ) → List State → (v : ℕ) → State
state_after machine script t config v =
    unwrap_or (hit_at script (t + 1) v) (machine.step v (heard_at script t config v))

-- those of all nodes
abbrev pub after_round : Machine → Script → (t : ℕ) → List State → List State
after_round machine script t config =
    map (state_after machine script t config) (range_with_len 0 script.nodes)

-- configuration t
abbrev pub played_at : Machine → Script → ℕ → List State
played_at machine script zero = starts script
played_at machine script (suc t) = after_round machine script t (played_at machine script t)

-- the configurations of era j
abbrev pub era_run : Machine → Script → (j : ℕ) → List (List State)
era_run machine script j = of_era script (played_at machine script) j
