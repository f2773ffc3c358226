-- The version of a plan, and plans without spare nodes.
use Rattle.std.specs.Prelude.{◌≡◌, ℕ, ◌*◌, ◌<◌, ◌↔◌, List, [], ◌∷◌, All}
use Rattle.sync_types.specs.States.{State}
use Rattle.construction.specs.Plans.{Level, Plan, plan_nodes, plan_faults, plan_modulus, plan_bound}
use Rattle.construction.specs.Plans.{plan_bits, plan_depth, plan_low}
use Rattle.construction.specs.Steps.{step_of}
use Rattle.construction.specs.Runs.{Run}
use Rattle.plan_numbers.specs.Premises.{IsAccepted}

-- the plan whose texts are of another version
abbrev pub in_version : ℕ → Plan → Plan
in_version version plan = record plan { version = version }

-- one plan has the numbers, the step and the runs of the other
pub record AreSame (plan other : Plan) : Type 0 where
  pub nodes : plan_nodes plan ≡ plan_nodes other
  pub faults : plan_faults plan ≡ plan_faults other
  pub modulus : plan_modulus plan ≡ plan_modulus other
  pub bound : plan_bound plan ≡ plan_bound other
  pub bits : plan_bits plan ≡ plan_bits other
  pub depth : plan_depth plan ≡ plan_depth other
  pub low : (v : ℕ) → plan_low plan v ≡ plan_low other v
  pub step : (v : ℕ) (heard : List State) → step_of plan v heard ≡ step_of other v heard
  pub runs : (faulty : List ℕ) (run : List (List State))
      → Run plan faulty run ↔ Run other faulty run

-- The version matters to none of them.
abbrev pub VersionsAgree : Type 0
VersionsAgree = (plan : Plan) (version : ℕ) → AreSame plan (in_version version plan)

-- the product of the blocks
abbrev pub blocks_of : List Level → ℕ
blocks_of [] = 1
blocks_of (level ∷ below) = level.blocks * blocks_of below

-- It is accepted in version 1 too and is the same plan there; its nodes are the product of the
-- blocks, and each has all fields.
pub record IsPlain (plan : Plan) : Type 0 where
  pub accepted : IsAccepted (in_version 1 plan)
  pub same : AreSame plan (in_version 1 plan)
  pub nodes : plan_nodes plan ≡ blocks_of plan.levels
  pub low : (v : ℕ) → v < plan_nodes plan → plan_low plan v ≡ 0

-- An accepted plan, of either version, in which no level has spare nodes.
abbrev pub NoSpares : Type 0
NoSpares =
    (plan : Plan) → IsAccepted plan → All (λ level. level.spares ≡ 0) plan.levels → IsPlain plan
