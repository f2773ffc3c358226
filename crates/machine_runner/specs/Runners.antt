-- What a runner of a script is.
use Rattle.std.specs.Prelude.{ℕ, ◌+◌, List, Option}
use Rattle.sync_types.specs.States.{State}
use Rattle.machines.specs.Machines.{Machine}
use Rattle.adversary_script.specs.Scripts.{Script}
use Rattle.machine_runner.specs.Locks.{first_locked, era_locked}
use Rattle.machine_runner.specs.Played.{played_at}

-- A runner: its machine and script, and at which configuration it is. So its states are those that
-- are played.
pub record Running (M : Type 0) : Type 0 where
  pub machine : M
  pub script : Script
  pub at : ℕ

-- the runner before its first round
abbrev pub begun : {M : Type 0} → M → Script → Running M
begun machine script = record { machine = machine; script = script; at = 0 }

-- and after one more
abbrev pub next : {M : Type 0} → Running M → Running M
next r = record r { at = r.at + 1 }

-- which machine each value is
module _ {M : Type 0} (machine : M → Machine) where
  -- configuration t of what it plays
  abbrev pub configuration_of : Running M → (t : ℕ) → List State
  configuration_of r t = played_at (machine r.machine) r.script t

  -- the one at which it is
  abbrev pub states_of : Running M → List State
  states_of r = configuration_of r r.at

  -- of era j the first locked configuration so far
  abbrev pub lock_of : Running M → (j : ℕ) → Option ℕ
  lock_of r j = first_locked
      (era_locked (machine r.machine) r.script (configuration_of r) j) r.at
