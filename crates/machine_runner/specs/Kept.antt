-- What a runner keeps: its configuration is the played one, its states are laid, and of each era it knows the first
-- locked configuration so far.
use Rattle.std.specs.Prelude.{◌≡◌, ℕ, ◌+◌, ◌≤◌, List, length, Option}
use Rattle.state_codec.specs.Packs.{Pack}
use Rattle.machines.specs.Machines.{Machine}
use Rattle.machines.specs.Laws.{IsSound}
use Rattle.adversary_script.specs.Scripts.{Script}
use Rattle.adversary_script.specs.Eras.{era_of}
use Rattle.machine_runner.specs.FirstLocked.{known_locks}
use Rattle.machine_runner.specs.Laws.{IsReadFor}
use Rattle.machine_runner.specs.Locks.{is_locked}
use Rattle.machine_runner.specs.Played.{played_at}
use Rattle.machine_runner.specs.declared.stepping.RoundBuffers.{RoundBuffers}
use Rattle.machine_runner.specs.Rooms.{IsReady}

-- of each era the first locked configuration up to number `at`
abbrev pub locks_at : Machine → Script → (at : ℕ) → List (Option ℕ)
locks_at machine script at = known_locks (is_locked machine) script (played_at machine script) at

pub record IsValidRunner (machine : Machine) (script : Script) (room : RoundBuffers) (states : Pack)
    (locks : List (Option ℕ)) (at era : ℕ) : Type 0 where
  pub sound : IsSound machine
  pub read : IsReadFor machine script
  pub ready : IsReady script room
  pub shape : states.shape ≡ script.shape
  pub size : length states.current ≡ script.nodes
  pub laid : room.heard.items ≡ states.current
  pub played : states.current ≡ played_at machine script at
  pub within : at ≤ script.rounds
  pub here : era ≡ era_of script at
  pub eras : length locks ≡ length script.eras + 1
  pub known : locks ≡ locks_at machine script at
