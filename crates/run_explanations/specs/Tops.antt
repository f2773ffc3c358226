-- The numbers of the top level of a plan, and of the counter in its blocks.
use Rattle.std.specs.Prelude.{ℕ, ◌*◌, ◌^◌, ◌<◌, ◌≤◌, List, [], ◌∷◌}
use Rattle.construction.specs.Plans.{Level, Plan, leaders_of, beat_of, interval_of, nodes_of}
use Rattle.construction.specs.Plans.{faults_of}
use Rattle.run_explanations.specs.declared.tops.Top.{Top}

-- a level over others
abbrev pub top_over : Level → List Level → Top
top_over level below = record {
  blocks = level.blocks;
  leaders = leaders_of level;
  beat = beat_of level;
  nodes = nodes_of below;
  faults = faults_of below;
}

abbrev pub top_in : List Level → Top
top_in [] = record { blocks = 0; leaders = 0; beat = 0; nodes = 0; faults = 0 }
top_in (level ∷ below) = top_over level below

-- the top level of a plan
abbrev pub top_of : Plan → Top
top_of plan = top_in plan.levels

-- what holds of these numbers if there is a level
pub record IsTop (top : Top) : Type 0 where
  pub blocks : top.blocks ≤ 16
  pub leaders : 2 ≤ top.leaders
  pub few_leaders : top.leaders ≤ top.blocks
  pub beat : 6 ≤ top.beat
  pub most_beat : top.beat ≤ 261
  pub nodes : top.blocks * top.nodes ≤ 256
  pub quorum : 3 * top.faults < top.nodes
  pub intervals : (i : ℕ) → i < top.blocks → interval_of top.beat top.leaders i ≤ 2 ^ 40
