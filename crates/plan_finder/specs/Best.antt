-- The best levels that a search knows, as the code keeps them.
use Rattle.std.specs.Prelude.{◌≡◌, ℕ, ◌+◌, ◌*◌, ◌<◌, ◌≤◌, List, [], ◌∷◌, ◌++◌, length, map, reverse}
use Rattle.std.specs.Prelude.{take, Option, Some, None, ◌⊎◌, slice_index_or}
use Rattle.std.proofs.Props.{props}
use Rattle.construction.specs.Plans.{Level, nodes_of, faults_of, bound_of}
use Rattle.plan_numbers.specs.Numbers.{line}
use Rattle.plan_finder.specs.declared.best.Step.{Step}
use Rattle.plan_finder.specs.declared.best.Best.{Best}
use Rattle.plan_finder.specs.Steps.{IsPath, IsStep}
use Rattle.plan_finder.specs.Orders.{IsLess, rank_of}
use Rattle.std.specs.List.{All, Contains}
use Rattle.plan_finder.specs.declared.pots.Pot.{Pot}
use Rattle.plan_finder.specs.Costs.{Reaches, IsRising, IsLeastCost}

-- the level of a step
abbrev pub level_by : Step → Level
level_by step = line step.blocks step.faults 0 0

-- levels by their steps, of which the lowest is first
abbrev pub levels_by : List Step → List Level
levels_by steps = map level_by (reverse steps)

-- the blocks and faults of steps
abbrev pub numbers_by : List Step → List ℕ
numbers_by [] = []
numbers_by (step ∷ steps) = step.blocks ∷ step.faults ∷ numbers_by steps

abbrev pub steps_in : Best → List Step
steps_in best = take best.depth best.steps

abbrev pub levels_in : Best → List Level
levels_in best = levels_by (steps_in best)

-- the numbers that are kept are those of the levels
pub record IsValidBest (best : Best) : Type 0 where
  pub value : best.value ≡ bound_of (levels_in best)
  pub nodes : best.nodes ≡ nodes_of (levels_in best)
  pub few : best.depth ≤ 5
  pub room : length best.steps ≡ 5

-- the levels of the one with a step more, at that cost, are those of the other
pub record IsWith (front : Best) (step : Step) (cost : ℕ) (best : Best) : Type 0 where
  pub value : best.value ≡ front.value + cost
  pub nodes : best.nodes ≡ step.blocks * front.nodes
  pub few : best.depth ≤ 5
  pub room : length best.steps ≡ 5
  pub steps : steps_in best ≡ steps_in front ++ step ∷ []

abbrev pub rank_in : Best → List ℕ
rank_in best = best.value ∷ best.nodes ∷ best.depth ∷ numbers_by (steps_in best)

-- of a set of levels the best ones are known, or the set is empty
pub record IsBest (set : List Level → Type 0) (best : Best) : Type 0 where
  pub kept : IsValidBest best
  pub member : set (levels_in best)
  pub least : (other : List Level) → set other → ¬ IsLess (rank_of other) (rank_of (levels_in best))

abbrev pub IsBestOf : (set : List Level → Type 0) → Option Best → Type 0
IsBestOf set (Some best) = IsBest set best
IsBestOf set None = (other : List Level) → ¬ set other

-- the cells of the pairs, one for each number of faults below the width, row by row
pub record AreBest (most width : ℕ) (cells : List (Option Best)) : Type 0 where
  pub best : (n f : ℕ) → f < width → n * width + f < length cells
      → IsBestOf (Reaches most n f) (slice_index_or cells (n * width + f) None)

-- the top one of levels has fewer than k blocks, or k over fewer than f faults
abbrev pub IsTriedTop : (k f : ℕ) → List Level → Type 0
IsTriedTop k f [] = ⊥
IsTriedTop k f (level ∷ below) = (level.blocks < k) ⊎ ((level.blocks ≡ k) × (faults_of below < f))

-- levels that reach a pair, the top one being among those tried
pub record IsTried (most n g k f : ℕ) (levels : List Level) : Type 0 where
  pub reaches : Reaches most n g levels
  pub tried : IsTriedTop k f levels

-- levels with f faults, and fewer than n nodes
pub record HasFaults (most f n : ℕ) (levels : List Level) : Type 0 where
  pub path : IsPath most levels
  pub faults : faults_of levels ≡ f
  pub nodes : nodes_of levels < n

-- the levels of two that come first
abbrev pub IsLesser : (known other result : Option Best) → Type 0
IsLesser known None result = result ≡ known
IsLesser None (Some other) result = result ≡ Some other
IsLesser (Some best) (Some other) result =
    ((result ≡ Some other) × IsLess (rank_in other) (rank_in best))
    ⊎ ((result ≡ Some best) × ¬ IsLess (rank_in other) (rank_in best))

-- levels of which the top one is a step by k blocks to g faults, from the pair n, f
abbrev pub AreOver : (most n f k g : ℕ) → List Level → Type 0
AreOver most n f k g [] = ⊥
AreOver most n f k g (level ∷ below) =
    Reaches most n f below × (level.blocks ≡ k) × (level.faults ≡ g) × (level.spares ≡ 0)
    × IsStep most n f k g

-- the pair m, g is before the pair n, f
abbrev pub IsPairBefore : (n f m g : ℕ) → Type 0
IsPairBefore n f m g = (m < n) ⊎ ((m ≡ n) × (g < f))

-- in rising order each pair before n, f that steps reach, with its least cost
pub record AreCostsBefore (most n f : ℕ) (pots : List Pot) : Type 0 where
  pub rising : IsRising pots
  pub costs : All (IsLeastCost most) pots
  pub before : All (λ pot. IsPairBefore n f pot.nodes pot.faults) pots
  pub complete : (levels : List Level) → IsPath most levels
      → IsPairBefore n f (nodes_of levels) (faults_of levels)
      → (value : ℕ)
      × Contains pots (record { nodes = nodes_of levels; faults = faults_of levels; value = value })

path_prop : (most : ℕ) (levels : List Level) → IsProp (IsPath most levels)
path_prop most [] = Prim.hlevel props
path_prop most (level ∷ below) = let lower = path_prop most below in Prim.hlevel (props, lower)

cell_prop : (most n f : ℕ) (best : Option Best) → IsProp (IsBestOf (Reaches most n f) best)
cell_prop most n f None = Prim.hlevel props
cell_prop most n f (Some best) = Prim.hlevel (props, path_prop)

-- that cells are the best ones has one proof at most
pub best_prop : (most width : ℕ) (cells : List (Option Best)) → IsProp (AreBest most width cells)
best_prop most width cells = Prim.hlevel (props, cell_prop)
