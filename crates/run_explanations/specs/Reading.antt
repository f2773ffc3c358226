-- A runner whose nodes are read by the numbers of its plan's top level.
use Rattle.std.specs.Prelude.{◌*◌, ◌≤◌}
use Rattle.construction.specs.Plans.{plan_nodes, plan_depth}
use Rattle.counter_core.specs.declared.overlays.NoOverlay.{NoOverlay}
use Rattle.round_runner.specs.Runners.{Running}
use Rattle.run_explanations.specs.declared.tops.Top.{Top}
use Rattle.run_explanations.specs.Tops.{IsTop}

-- there is a level, and the nodes of its blocks are nodes of the plan
pub record Reads (top : Top) (r : Running NoOverlay) : Type 0 where
  pub top_is : IsTop top
  pub depth : 1 ≤ plan_depth r.plan
  pub nodes : top.blocks * top.nodes ≤ plan_nodes r.plan
