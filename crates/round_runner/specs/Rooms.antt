-- What rounds need beside two configurations.
use Rattle.std.specs.Prelude.{◌≡◌, ℕ, length}
use Rattle.construction.specs.Plans.{Plan}
use Rattle.adversary_script.specs.Scripts.{Script}
use Rattle.counter_core.specs.Working.{IsWorkFor}
use Rattle.round_runner.specs.declared.told_steps.StepBuffers.{StepBuffers}
use Rattle.round_runner.specs.declared.stepping.RoundBuffers.{RoundBuffers}
use Rattle.machine_runner.specs.Hearing.{HasRoom}
use Rattle.round_runner.specs.Hearing.{AreLies}

-- it was made for the steps of the plan's nodes, whose states have so many registers
pub record IsMadeFor (plan : Plan) (depth : ℕ) (room : StepBuffers) : Type 0 where
  pub lies : AreLies plan depth room.lies.items
  pub shared : room.shared.plan ≡ plan
  pub out : length room.out.registers ≡ depth

-- it was made for the plan and the script
pub record IsReady (plan : Plan) (script : Script) (room : RoundBuffers) : Type 0 where
  pub noise : room.noise ≡ script.key
  pub heard : HasRoom script room.heard.items
  pub work : IsWorkFor script.nodes room.work
  pub step : IsMadeFor plan script.shape.depth room.step
