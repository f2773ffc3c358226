-- What a runner of a script on a machine with a layer above is, and where its play stands.
use Rattle.std.specs.Prelude.{ℕ, List, Option}
use Rattle.sync_types.specs.States.{State}
use Rattle.counter_core.specs.Overlays.{Layer}
use Rattle.machines.specs.Machines.{Machine}
use Rattle.adversary_script.specs.Scripts.{Script}
use Rattle.machine_runner.specs.Locks.{is_locked}
use Rattle.layer_laws.specs.Positions.{Position}
use Rattle.player.specs.Counters.{machine_counter}

-- A runner: its machine, script and layer, and configuration `at`; of each era the first
-- configuration so far that is locked.
pub record Running (M O : Type 0) : Type 0 where
  pub machine : M
  pub script : Script
  pub overlay : O
  pub at : ℕ
  pub states : List State
  pub locks : List (Option ℕ)

-- where its play stands
abbrev pub position_of : {M O Kept : Type 0} → (machine_of : M → Machine)
    → (layer_of : O → Layer Kept) → (kept_of : O → List Kept) → Running M O → Position Kept
position_of machine_of layer_of kept_of r = record {
  counter = machine_counter (machine_of r.machine);
  locked = is_locked (machine_of r.machine);
  script = r.script;
  layer = layer_of r.overlay;
  at = r.at;
  scene = record { states = r.states; kept = kept_of r.overlay };
  locks = r.locks;
}
