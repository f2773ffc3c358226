-- What a trace needs besides its runner.
use Rattle.std.specs.Prelude.{◌≡◌, ℕ, ◌≤◌, List, length, All}
use Rattle.sync_types.specs.States.{State}
use Rattle.construction.specs.Plans.{Plan, plan_nodes}
use Rattle.plan_numbers.specs.Numbers.{levels_in}
use Rattle.plan_numbers.specs.Stacked.{AreSomeLevels}
use Rattle.counter_core.specs.declared.overlays.NoOverlay.{NoOverlay}
use Rattle.round_runner.specs.Runners.{Running}
use Rattle.trace.specs.declared.desks.TraceBuffers.{TraceBuffers}

-- so many states, of one depth
pub record HasRoom (nodes depth : ℕ) (states : List State) : Type 0 where
  pub size : length states ≡ nodes
  pub deep : All (λ s. length s.registers ≡ depth) states

-- it was made for a plan, and for states of a depth
pub record IsMade (plan : Plan) (depth : ℕ) (desk : TraceBuffers) : Type 0 where
  pub levels : levels_in desk.levels.items ≡ plan.levels
  pub are : AreSomeLevels desk.levels.items
  pub shallow : length desk.levels.items ≤ 5
  pub deep : length desk.levels.items ≤ depth
  pub few : plan_nodes plan ≤ 256
  pub config : HasRoom (plan_nodes plan) depth desk.config.items
  pub heard : HasRoom (plan_nodes plan) depth desk.heard.items

-- the desk is one for the states of a runner
abbrev pub IsFitFor : Running NoOverlay → TraceBuffers → Type 0
IsFitFor r desk = IsMade r.plan r.script.shape.depth desk
