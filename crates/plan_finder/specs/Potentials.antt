-- Potentials: values of pairs that no step undercuts, and what they say of every plan.
use Rattle.std.specs.Prelude.{◌≡◌, ℕ, ◌+◌, ◌*◌, ◌≤◌, List, ◌<◌, Option, Some, None}
use Rattle.std.specs.Int.{div_ceil}
use Rattle.std.specs.List.{All, Any, Contains}
use Rattle.construction.specs.Plans.{Plan, plan_nodes, plan_faults, plan_bound}
use Rattle.plan_numbers.specs.Premises.{IsAccepted}
use Rattle.plan_finder.specs.declared.pots.Pot.{Pot}
use Rattle.plan_finder.specs.Steps.{IsStep, cost_of}
use Rattle.plan_finder.specs.Costs.{IsRising}

-- this is the pair n, f with at most that value
pub record IsAtMost (n f most_value : ℕ) (pot : Pot) : Type 0 where
  pub nodes : pot.nodes ≡ n
  pub faults : pot.faults ≡ f
  pub most : pot.value ≤ most_value

-- the pair n, f is there with at most that value
abbrev pub IsKnown : List Pot → (n f most_value : ℕ) → Type 0
IsKnown pots n f most_value = Any (IsAtMost n f most_value) pots

-- the step to g faults by k blocks, if it is one, leads to a pair that is there with at most the
-- sum
abbrev pub StepIsKnown : (most : ℕ) → List Pot → Pot → (k g : ℕ) → Type 0
StepIsKnown most pots pot k g =
    IsStep most pot.nodes pot.faults k g → IsKnown pots (k * pot.nodes) g (pot.value + cost_of k g)

abbrev pub StepsAreKnownBy : (most : ℕ) → List Pot → Pot → (k : ℕ) → Type 0
StepsAreKnownBy most pots pot k = (g : ℕ) → StepIsKnown most pots pot k g

abbrev pub StepsAreKnown : (most : ℕ) → List Pot → Pot → Type 0
StepsAreKnown most pots pot = (k : ℕ) → StepsAreKnownBy most pots pot k

-- what a step needs beside its cost
pub record MayStep (most n f k g : ℕ) : Type 0 where
  pub least_blocks : 3 ≤ k
  pub most_blocks : k ≤ 16
  pub most_faults : g ≤ 85
  pub most_nodes : k * n ≤ most
  pub quorum : 3 * g < k * n
  pub share : g < (f + 1) * div_ceil k 2

-- a pair with f faults has at least the value of the bound; without a bound it does not have f
-- faults
abbrev pub KeepsBound : (f : ℕ) → Option ℕ → Pot → Type 0
KeepsBound f (Some bound) pot = pot.faults ≡ f → bound ≤ pot.value
KeepsBound f None pot = ¬ (pot.faults ≡ f)

pub record ArePotentials (f most : ℕ) (bound : Option ℕ) (pots : List Pot) : Type 0 where
  pub rising : IsRising pots
  pub start : Contains pots (record { nodes = 1; faults = 0; value = 0 })
  pub steps : All (StepsAreKnown most pots) pots
  pub values : All (KeepsBound f bound) pots

-- the bound of a plan, if there is one
abbrev pub bound_in : Option Plan → Option ℕ
bound_in (Some plan) = Some (plan_bound plan)
bound_in None = None

-- a plan settles in no less than the bound; without a bound none is found
abbrev pub IsBoundOf : Option ℕ → ℕ → Type 0
IsBoundOf (Some bound) t = bound ≤ t
IsBoundOf None t = ⊥

-- Potentials bound every plan: an accepted plan of version 1 with f faults and so many nodes at
-- most settles in no less than the bound, and without a bound there is no such plan.
abbrev pub PotentialsBound : Type 0
PotentialsBound =
    (f most : ℕ) (bound : Option ℕ) (pots : List Pot) → ArePotentials f most bound pots
    → (plan : Plan) → IsAccepted plan → plan.version ≡ 1
    → plan_faults plan ≡ f → plan_nodes plan ≤ most
    → IsBoundOf bound (plan_bound plan)
