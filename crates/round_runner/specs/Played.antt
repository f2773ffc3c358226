-- The run of a script: configurations 0 to its last round.
use Rattle.std.specs.Prelude.{ℕ, zero, suc, ◌+◌, List, map, unwrap_or}
use Rattle.std.specs.List.{range_with_len}
use Rattle.sync_types.specs.States.{State}
use Rattle.construction.specs.Plans.{Plan}
use Rattle.construction.specs.Steps.{step_of}
use Rattle.adversary_script.specs.Scripts.{Script}
use Rattle.adversary_script.specs.Lookup.{hit_at}
pub use Rattle.adversary_script.specs.Rounds.{starts, lies_at, heard_at}
use Rattle.machine_runner.specs.Eras.{of_era}

-- Every node, the puppets of faulty ones too, steps from what it hears; if an era begins after the
-- round, a node with a start line there is put into its state.
abbrev pub after_round : Plan → Script → (t : ℕ) → List State → List State
after_round plan script t config =
    map (λ v. unwrap_or (hit_at script (t + 1) v) (step_of plan v (heard_at script t config v)))
    (range_with_len 0 script.nodes)

-- configuration t
abbrev pub played_at : Plan → Script → ℕ → List State
played_at plan script zero = starts script
played_at plan script (suc t) = after_round plan script t (played_at plan script t)

-- the configurations of era j
abbrev pub era_run : Plan → Script → (j : ℕ) → List (List State)
era_run plan script j = of_era script (played_at plan script) j
