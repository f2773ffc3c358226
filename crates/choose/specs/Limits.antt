-- Which limit of boosting plans ends a table: accepted ones have at most 256 nodes, 16 blocks a
-- level and moduli up to 2^40.
use Rattle.std.specs.Prelude.{◌≡◌, ℕ, ◌+◌, ◌*◌, ◌^◌, ◌%◌, ◌<◌, ◌≤◌, List, [], ◌∷◌, None}
use Rattle.construction.specs.Plans.{Level, Plan, plan_faults, group_size, leaders_of, span_of}
use Rattle.plan_numbers.specs.declared.numbers.Below.{Below}
use Rattle.plan_numbers.specs.Numbers.{below_of}
use Rattle.plan_numbers.specs.Premises.{base_premise}

-- a level that meets all premises, but may have more than 256 nodes
pub record MeetsOthers (below : Below) (level : Level) : Type 0 where
  pub most_blocks : level.blocks ≤ 16
  pub most_faults : level.faults ≤ 85
  pub most_modulus : level.modulus ≤ 2 ^ 40
  pub blocks : 3 ≤ level.blocks
  pub modulus : 2 ≤ level.modulus
  pub quorum : 3 * level.faults < group_size level below.nodes
  pub share : level.faults < (below.faults + 1) * leaders_of level
  pub multiple : below.modulus % span_of level ≡ 0

abbrev pub LevelsMeetOthers : ℕ → List Level → Type 0
LevelsMeetOthers base [] = base_premise base ≡ None
LevelsMeetOthers base (level ∷ below) =
    LevelsMeetOthers base below × MeetsOthers (below_of base below) level

-- It is that of 256 nodes: a plan that keeps the other limits tolerates 85 faults, the most that
-- can be asked for.
abbrev pub NodesEndTables : Type 0
NodesEndTables =
    (plan : Plan) × LevelsMeetOthers plan.base plan.levels × (plan_faults plan ≡ 85)
