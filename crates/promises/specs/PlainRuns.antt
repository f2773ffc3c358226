-- What is played of a script without a layer is the script's: its starts, its faulty sets, its
-- lies.
use Rattle.std.specs.Prelude.{◌≡◌, ℕ, ◌+◌, ◌<◌, ◌≤◌, List, length, Some, None}
use Rattle.std.specs.Prelude.{[], slice_index_or}
use Rattle.sync_types.specs.States.{State}
use Rattle.construction.specs.Plans.{Plan, plan_nodes}
use Rattle.construction.specs.Steps.{state_of, step_of}
use Rattle.construction.specs.Runs.{heard_by, IsToleratedBy}
use Rattle.adversary_script.specs.Scripts.{Script}
use Rattle.adversary_script.specs.Eras.{faulty_of_era, faulty_at}
use Rattle.adversary_script.specs.Lookup.{hit_at}
use Rattle.adversary_script.specs.Lies.{lie_of}
use Rattle.round_runner.specs.Laws.{IsReadFor, EraIsRun}
use Rattle.round_runner.specs.Played.{starts, lies_at, played_at}
use Rattle.promises.specs.SaidLines.{SaysLines}

-- what the script lets each node tell each other in round t
abbrev pub lies_played : Plan → Script → (t : ℕ) → List (List State)
lies_played plan script t = lies_at script t (played_at plan script t)

-- The lines of the script say what its eras, its starts and its lies are. Configuration 0 has the
-- starts. After a round, also when an era begins there, a node that has a start line there is in
-- its state, and each other one steps from what it hears, also the puppet of a faulty one. There
-- the lies are the script's: what a faulty node tells another is what the first lie of the script
-- that says this gives, or else its puppet's state. Each era is a run, with few faulty nodes.
pub record PlaysPlain (plan : Plan) (script : Script) : Type 0 where
  pub says : SaysLines script
  pub starts : played_at plan script 0 ≡ starts script
  pub puts : (t v : ℕ) (state : State) → t < script.rounds → v < plan_nodes plan
      → hit_at script (t + 1) v ≡ Some state → state_of (played_at plan script (t + 1)) v ≡ state
  pub steps : (t v : ℕ) → t < script.rounds → v < plan_nodes plan
      → hit_at script (t + 1) v ≡ None
      → state_of (played_at plan script (t + 1)) v
      ≡ step_of plan v
      (heard_by (plan_nodes plan) (faulty_at script t) (played_at plan script t)
      (lies_played plan script t) v)
  pub told : (t u v : ℕ) → t < script.rounds → u < plan_nodes plan → v < plan_nodes plan
      → state_of (slice_index_or (lies_played plan script t) u []) v
      ≡ lie_of script t u v (played_at plan script t)
  pub borne : (j : ℕ) → j ≤ length script.eras → IsToleratedBy plan (faulty_of_era script j)
  pub eras : (j : ℕ) → j ≤ length script.eras → EraIsRun plan script j

-- What is played of a script that was read for an accepted plan is the script's.
abbrev pub PlainScriptsArePlayed : Type 0
PlainScriptsArePlayed = (plan : Plan) (script : Script) → IsReadFor plan script
    → PlaysPlain plan script
