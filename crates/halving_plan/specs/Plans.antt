-- A plan of the halving construction: three numbers, and the tree that they stand for.
use Rattle.std.specs.Prelude.{◌≡◌, ℕ, ◌+◌, ◌-◌, ◌*◌, ◌^◌, ◌<◌, ◌≤◌, ◌||◌, ◌&&◌, nat_lt, nat_le}
use Rattle.std.specs.Prelude.{nat_eq, if◌then◌else◌, Option, Some, None, Result, Ok, Err}
use Rattle.halving_plan.specs.Trees.{Tree, tree_for}
use Rattle.halving_plan.specs.declared.premises.HalvingPremise.{HalvingPremise}
use Rattle.halving_plan.specs.declared.premises.HalvingPremise.TheVariants.{Limit, Modulus, Quorum}
use Rattle.halving_plan.specs.declared.premises.HalvingPremise.TheVariants.{Single}

-- N, F and C
pub record HalvingNumbers : Type 0 where
  pub nodes : ℕ
  pub faults : ℕ
  pub modulus : ℕ

-- the tree of F faults with all nodes
abbrev pub tree_of : HalvingNumbers → Tree
tree_of plan = tree_for plan.faults (plan.nodes - (3 * plan.faults + 1))

-- the first premise that the numbers fail
abbrev pub first_premise : HalvingNumbers → Option HalvingPremise
first_premise plan =
    if nat_lt 256 plan.nodes || nat_lt (2 ^ 40) plan.modulus then Some Limit
    else if nat_lt plan.modulus 2 then Some Modulus
    else if nat_le plan.nodes (3 * plan.faults) then Some Quorum
    else if nat_eq plan.faults 0 && nat_lt 1 plan.nodes then Some Single
    else None

-- what numbers that fail no premise meet
pub record IsAccepted (plan : HalvingNumbers) : Type 0 where
  pub most_nodes : plan.nodes ≤ 256
  pub least_modulus : 2 ≤ plan.modulus
  pub most_modulus : plan.modulus ≤ 2 ^ 40
  pub quorum : 3 * plan.faults < plan.nodes
  pub single : plan.faults ≡ 0 → plan.nodes ≡ 1

-- the value, unless a premise fails
abbrev pub unless : {X : Type 0} → Option HalvingPremise → X → Result X HalvingPremise
unless None x = Ok x
unless (Some premise) x = Err premise
