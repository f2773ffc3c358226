-- The plan of levels whose moduli are left aside.
use Rattle.std.specs.Prelude.{◌≡◌, ℕ, ◌≤◌, ◌^◌, List, [], ◌∷◌, Option, Some, None}
use Rattle.plan_numbers.specs.Premises.{IsAccepted}
use Rattle.plan_finder.specs.declared.best.Best.{Best}
use Rattle.plan_finder.specs.Best.{levels_in}
use Rattle.plan_finder.specs.declared.best.Step.{Step}
use Rattle.plan_finder.specs.Steps.{cost_of}
use Rattle.construction.specs.Plans.{Level, Plan, span_of}

-- the base over which these levels count by c, each modulus below a level being the level's span
abbrev pub base_under : (c : ℕ) → List Level → ℕ
base_under c [] = c
base_under c (level ∷ below) = base_under (span_of level) below

-- these levels, with these moduli
abbrev pub counting_by : (c : ℕ) → List Level → List Level
counting_by c [] = []
counting_by c (level ∷ below) = record level { modulus = c } ∷ counting_by (span_of level) below

abbrev pub plan_with : (c : ℕ) → List Level → Plan
plan_with c levels =
    record { version = 1; base = base_under c levels; levels = counting_by c levels }

-- the modulus that stands below steps, of which the lowest is first
abbrev pub modulus_under : (c : ℕ) → List Step → ℕ
modulus_under c [] = c
modulus_under c (step ∷ steps) = cost_of step.blocks step.faults

-- what the steps of a path are
pub record IsUsable (step : Step) : Type 0 where
  pub least_blocks : 3 ≤ step.blocks
  pub most_blocks : step.blocks ≤ 16
  pub most_faults : step.faults ≤ 85
  pub most_cost : cost_of step.blocks step.faults ≤ 2 ^ 40

-- the plan is that of the best levels, and accepted; there is none if there are none
abbrev pub IsBuilt : (c : ℕ) → Option Best → Option Plan → Type 0
IsBuilt c None plan = plan ≡ None
IsBuilt c (Some best) plan =
    (plan ≡ Some (plan_with c (levels_in best))) × IsAccepted (plan_with c (levels_in best))
