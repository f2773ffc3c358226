-- The pairs of nodes and faults that steps reach, with their least costs.
use Rattle.std.specs.Prelude.{◌≡◌, ℕ, ◌<◌, ◌≤◌, List, [], ◌∷◌, ◌⊎◌}
use Rattle.std.specs.List.{All, Contains}
use Rattle.construction.specs.Plans.{Level, nodes_of, faults_of, bound_of}
use Rattle.plan_finder.specs.declared.pots.Pot.{Pot}
use Rattle.plan_finder.specs.Steps.{IsPath}

-- pairs are compared by nodes, and then by faults
abbrev pub IsBelow : Pot → Pot → Type 0
IsBelow pot other =
    (pot.nodes < other.nodes) ⊎ ((pot.nodes ≡ other.nodes) × (pot.faults < other.faults))

-- each pair is below the next
abbrev pub IsRising : List Pot → Type 0
IsRising [] = Unit {0}
IsRising (pot ∷ []) = Unit {0}
IsRising (pot ∷ (next ∷ pots)) = IsBelow pot next × IsRising (next ∷ pots)

-- levels that reach the pair n, f
pub record Reaches (most n f : ℕ) (levels : List Level) : Type 0 where
  pub path : IsPath most levels
  pub nodes : nodes_of levels ≡ n
  pub faults : faults_of levels ≡ f

-- the pair is reached at its value, and at no less
pub record IsLeastCost (most : ℕ) (pot : Pot) : Type 0 where
  pub reached : (levels : List Level)
      × Reaches most pot.nodes pot.faults levels × (bound_of levels ≡ pot.value)
  pub least : (levels : List Level)
      → Reaches most pot.nodes pot.faults levels → pot.value ≤ bound_of levels

-- in rising order each pair that steps reach, with its least cost
pub record AreLeastCosts (most : ℕ) (pots : List Pot) : Type 0 where
  pub rising : IsRising pots
  pub costs : All (IsLeastCost most) pots
  pub complete : (levels : List Level) → IsPath most levels
      → (value : ℕ)
      × Contains pots (record { nodes = nodes_of levels; faults = faults_of levels; value = value })
