-- Why there is no plan for some wants: how many nodes their faults take, and how many faults their
-- nodes tolerate. Neither depends on what is counted by.
use Rattle.std.specs.Prelude.{ℕ, ◌≤◌, List, [], ◌∷◌, ◌++◌, Option, Some, None, codes, decimal}
use Rattle.std.specs.List.{concat}
use Rattle.construction.specs.Plans.{Plan}
use Rattle.plan_finder.specs.declared.wants.Want.{Want}
use Rattle.choose.specs.declared.any_plans.AnyPlan.{AnyPlan}
use Rattle.choose.specs.declared.any_plans.AnyPlan.TheVariants.{Boosting, Halving}
use Rattle.choose.specs.declared.requests.Scope.{Scope}
use Rattle.choose.specs.declared.requests.Scope.TheVariants as scope
use Rattle.choose.specs.declared.shortages.Shortage.{Shortage}
use Rattle.choose.specs.Fronts.{IsFront}
use Rattle.choose.specs.FrontsOfBoth.{Tolerates, IsFrontOf}

-- the plans that are looked at
abbrev pub IsIn : Scope → AnyPlan → Type 0
IsIn scope.Both plan = Unit {0}
IsIn scope.Boosting (Boosting plan) = Unit {0}
IsIn scope.Boosting (Halving plan) = ⊥

-- an accepted one of them, whatever it counts by, tolerates f faults, or more, with at most n nodes
abbrev pub CanTolerate : Scope → (n f : ℕ) → Type 0
CanTolerate scope n f = (plan : AnyPlan) × IsIn scope plan × Tolerates n f plan

-- How many nodes f faults take, None if no plan of at most 256 nodes tolerates them.
abbrev pub AreFewest : Scope → (f : ℕ) → Option ℕ → Type 0
AreFewest scope f (Some n) = CanTolerate scope n f × ((m : ℕ) → CanTolerate scope m f → n ≤ m)
AreFewest scope f None = (m : ℕ) → m ≤ 256 → ¬ CanTolerate scope m f

-- how many faults n nodes tolerate
abbrev pub IsMostOf : Scope → (n f : ℕ) → Type 0
IsMostOf scope n f = CanTolerate scope n f × ((g : ℕ) → CanTolerate scope n g → g ≤ f)

-- there is no plan for the wants, and these are the numbers
pub record IsShort (scope : Scope) (want : Want) (short : Shortage) : Type 0 where
  pub none : ¬ CanTolerate scope want.most want.faults
  pub nodes : AreFewest scope want.faults short.nodes
  pub faults : IsMostOf scope want.most short.faults

-- if there is a plan, there is no shortage
abbrev pub IsShortage : Scope → Want → Option Shortage → Type 0
IsShortage scope want None = CanTolerate scope want.most want.faults
IsShortage scope want (Some short) = IsShort scope want short

-- there is such a plan exactly if this list has one
abbrev pub IsTold : Scope → (n f : ℕ) → {X : Type 0} → List X → Type 0
IsTold scope n f [] = ¬ CanTolerate scope n f
IsTold scope n f (plan ∷ rest) = CanTolerate scope n f

-- A front of plans that count by c has a plan exactly if there is one that counts by any number.
abbrev pub ModulusDecidesNothing : Type 0
ModulusDecidesNothing = (f c most : ℕ)
    → ((plans : List Plan) → IsFront f c most plans → IsTold scope.Boosting most f plans)
    × ((plans : List AnyPlan) → IsFrontOf f c most plans → IsTold scope.Both most f plans)

-- ---- the line that says so

abbrev pub nodes_part : (f : ℕ) → Option ℕ → List ℕ
nodes_part f (Some n) = concat (
    codes "none: FAULTS " ∷ decimal f
    ∷ codes " takes MOST_NODES of at least " ∷ decimal n ∷ [])
nodes_part f None = concat (
    codes "none: FAULTS " ∷ decimal f
    ∷ codes " is more than any boosting plan of at most 256 nodes tolerates" ∷ [])

abbrev pub faults_part : (n f : ℕ) → List ℕ
faults_part n f = concat (
    codes "; MOST_NODES " ∷ decimal n ∷ codes " allows FAULTS of at most " ∷ decimal f
    ∷ codes "\n" ∷ [])

abbrev pub shortage_text : Want → Option Shortage → List ℕ
shortage_text want None = []
shortage_text want (Some short) =
    nodes_part want.faults short.nodes ++ faults_part want.most short.faults
