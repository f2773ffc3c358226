-- What rounds of a script need: two configurations, and room beside them.
use Rattle.std.specs.Prelude.{◌≡◌, length}
use Rattle.state_codec.specs.Packs.{Pack}
use Rattle.counter_core.specs.Working.{IsWorkFor}
use Rattle.adversary_script.specs.Scripts.{Script}
use Rattle.machine_runner.specs.declared.stepping.RoundBuffers.{RoundBuffers}
use Rattle.machine_runner.specs.Hearing.{HasRoom}

-- a configuration of the script's nodes, of its shape
pub record IsConfiguration (script : Script) (states : Pack) : Type 0 where
  pub shape : states.shape ≡ script.shape
  pub size : length states.current ≡ script.nodes

-- the room was made for the script
pub record IsReady (script : Script) (room : RoundBuffers) : Type 0 where
  pub noise : room.noise ≡ script.key
  pub heard : HasRoom script room.heard.items
  pub work : IsWorkFor script.nodes room.work
  pub out : length room.out.registers ≡ script.shape.depth
