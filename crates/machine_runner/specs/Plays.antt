-- What is played of a script on a machine is the script's: its starts, its faulty nodes, its lies.
use Rattle.std.specs.Prelude.{◌≡◌, ℕ, ◌+◌, ◌<◌, List, [], Some, None, slice_index_or}
use Rattle.sync_types.specs.States.{State}
use Rattle.construction.specs.Steps.{state_of}
use Rattle.construction.specs.Runs.{heard_by}
use Rattle.machines.specs.Machines.{Machine}
use Rattle.adversary_script.specs.Scripts.{Script}
use Rattle.adversary_script.specs.Eras.{faulty_at}
use Rattle.adversary_script.specs.Lookup.{hit_at}
use Rattle.adversary_script.specs.Lies.{lie_of}
use Rattle.machine_runner.specs.Laws.{IsReadFor}
use Rattle.machine_runner.specs.Played.{starts, lies_at, played_at}

-- what the script lets each node tell each other in round t
abbrev pub lies_played : Machine → Script → (t : ℕ) → List (List State)
lies_played machine script t = lies_at script t (played_at machine script t)

-- Configuration 0 has the starts. After a round, if an era begins, a node that has a start line
-- there is in its state, and each other one steps from what it hears, also the puppet of a faulty
-- one. There the lies are the script's: what a faulty node tells another is what the first lie of
-- the script that says this gives, or else its puppet's state.
pub record PlaysScript (machine : Machine) (script : Script) : Type 0 where
  pub starts : played_at machine script 0 ≡ starts script
  pub puts : (t v : ℕ) (state : State) → t < script.rounds → v < machine.nodes
      → hit_at script (t + 1) v ≡ Some state
      → state_of (played_at machine script (t + 1)) v ≡ state
  pub steps : (t v : ℕ) → t < script.rounds → v < machine.nodes
      → hit_at script (t + 1) v ≡ None
      → state_of (played_at machine script (t + 1)) v
      ≡ machine.step v
      (heard_by machine.nodes (faulty_at script t) (played_at machine script t)
      (lies_played machine script t) v)
  pub told : (t u v : ℕ) → t < script.rounds → u < machine.nodes → v < machine.nodes
      → state_of (slice_index_or (lies_played machine script t) u []) v
      ≡ lie_of script t u v (played_at machine script t)

-- So it is of each script that was read for the machine.
abbrev pub ScriptsArePlayed : Type 0
ScriptsArePlayed = (machine : Machine) (script : Script) → IsReadFor machine script
    → PlaysScript machine script
