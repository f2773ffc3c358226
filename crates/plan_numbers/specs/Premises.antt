-- The premises of a plan's lines, in the order in which they are tested.
use Rattle.std.specs.Prelude.{◌≡◌, ℕ, ◌+◌, ◌*◌, ◌^◌, ◌%◌, ◌<◌, ◌≤◌, List, [], ◌∷◌, ◌||◌, not}
use Rattle.std.specs.Prelude.{nat_lt, nat_le, ◌==◌, if◌then◌else◌, Option, Some, None, Result, Ok}
use Rattle.std.specs.Prelude.{Err, All}
use Rattle.sync_types.specs.declared.answers.Premise.{Premise}
use Rattle.sync_types.specs.declared.answers.Premise.TheVariants.{Limit, Blocks, Modulus, Quorum}
use Rattle.sync_types.specs.declared.answers.Premise.TheVariants.{Share, Multiple}
use Rattle.construction.specs.Plans.{Level, Plan, group_size, leaders_of, span_of}
use Rattle.plan_numbers.specs.declared.numbers.Below.{Below}
use Rattle.plan_numbers.specs.Numbers.{below_of}

-- the first premise that a base modulus fails
abbrev pub base_premise : ℕ → Option Premise
base_premise base =
    if nat_lt (2 ^ 40) base then Some Limit else if nat_lt base 2 then Some Modulus else None

-- the first premise that a level fails over what stands below it
abbrev pub first_premise : Below → Level → Option Premise
first_premise below level =
    if nat_lt 16 level.blocks || nat_lt 85 level.faults || nat_lt (2 ^ 40) level.modulus || nat_lt
    256 (group_size level below.nodes) then Some Limit
    else if nat_lt level.blocks 3 then Some Blocks
    else if nat_lt level.modulus 2 then Some Modulus
    else if nat_le (group_size level below.nodes) (3 * level.faults) then Some Quorum
    else if nat_le ((below.faults + 1) * leaders_of level) level.faults then Some Share
    else if not (below.modulus % span_of level == 0) then Some Multiple
    else None

-- what a level that fails no premise meets
pub record MeetsPremises (below : Below) (level : Level) : Type 0 where
  pub most_blocks : level.blocks ≤ 16
  pub most_faults : level.faults ≤ 85
  pub most_modulus : level.modulus ≤ 2 ^ 40
  pub most_nodes : group_size level below.nodes ≤ 256
  pub blocks : 3 ≤ level.blocks
  pub modulus : 2 ≤ level.modulus
  pub quorum : 3 * level.faults < group_size level below.nodes
  pub share : level.faults < (below.faults + 1) * leaders_of level
  pub multiple : below.modulus % span_of level ≡ 0

-- the base fails no premise, and no level fails one over those below it
abbrev pub LevelsAccepted : ℕ → List Level → Type 0
LevelsAccepted base [] = base_premise base ≡ None
LevelsAccepted base (level ∷ below) =
    LevelsAccepted base below × (first_premise (below_of base below) level ≡ None)

-- no level has spares in version 1
abbrev pub FitsVersion : (version : ℕ) → Level → Type 0
FitsVersion version level = version ≡ 1 → level.spares ≡ 0

-- the version is 1 or 2, no level has what the version does not have, and no line of the plan fails
-- a premise
pub record IsAccepted (plan : Plan) : Type 0 where
  pub oldest : 1 ≤ plan.version
  pub newest : plan.version ≤ 2
  pub fits : All (FitsVersion plan.version) plan.levels
  pub levels : LevelsAccepted plan.base plan.levels

-- the value, unless a premise fails
abbrev pub unless : {X : Type 0} → Option Premise → X → Result X Premise
unless None x = Ok x
unless (Some premise) x = Err premise
