-- What a trace on a halving plan needs besides its runner, and where the runner is.
use Rattle.std.specs.Prelude.{ℕ}
use Rattle.adversary_script.specs.Scripts.{Script}
use Rattle.machine_runner.specs.Hearing.{HasRoom}
use Rattle.machine_runner.specs.Runners.{Running}
use Rattle.trace.specs.declared.halving_desks.HalvingBuffers.{HalvingBuffers}

-- the desk has room for the states of a script's nodes
pub record IsDeskFor (script : Script) (desk : HalvingBuffers) : Type 0 where
  pub config : HasRoom script desk.config.items
  pub heard : HasRoom script desk.heard.items

-- the same runner at configuration t
abbrev pub runner_at : {M : Type 0} → Running M → (t : ℕ) → Running M
runner_at r t = record r { at = t }
