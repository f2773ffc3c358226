-- The levels of an accepted plan of version 1 are a path.
use Rattle.std.proofs.Common.{◌≡◌, ℕ, ◌*◌, ◌≤◌, List, [], ◌∷◌, length, refl, subst, arith}
use Rattle.std.specs.List.{All}
use Rattle.std.proofs.lemmas.List.{length-append}
use Rattle.std.proofs.lemmas.List.Elements.{All-head, All-tail}
use Rattle.std.proofs.Math.Nat.{mul-le-mul_right}
use Rattle.construction.specs.Plans.{Level, Plan, nodes_of}
use Rattle.plan_numbers.specs.Numbers.{below_of}
use Rattle.plan_numbers.specs.Premises.{LevelsAccepted, IsAccepted, FitsVersion, MeetsPremises}
use Rattle.plan_numbers.proofs.Accepted.{meets, level_sized, accepted_sized}
use Rattle.plan_finder.specs.Steps.{IsPath}
use Rattle.plan_finder.specs.Orders.{steps_of}

pub accepted_path : (most base : ℕ) (levels : List Level) → LevelsAccepted base levels
    → All (FitsVersion 1) levels → nodes_of levels ≤ most → IsPath most levels
accepted_path most base [] accepted fits few = tt
accepted_path most base (level ∷ below) (accepted, none) fits few =
    let met : MeetsPremises (below_of base below) level = meets (below_of base below) level none in
    let sized = accepted_sized base below accepted in
    let spares : level.spares ≡ 0 = All-head (FitsVersion 1) level below fits refl in
    let one : 1 ≤ level.blocks = omega (arith, met.blocks) in
    let blocks : 1 * nodes_of below
    ≤ level.blocks * nodes_of below = mul-le-mul_right (nodes_of below) one in (
      accepted_path most base below accepted (All-tail (FitsVersion 1) level below fits)
          (omega (arith, few, blocks)),
      spares,
      record {
        least_blocks = met.blocks;
        most_blocks = met.most_blocks;
        most_nodes = omega (arith, few);
        most_faults = met.most_faults;
        quorum = omega (arith, met.quorum, spares);
        share = met.share;
        most_cost = (level_sized (below_of base below) level sized met).most_span;
      },
    )

pub plan_path : (most : ℕ) (plan : Plan) → IsAccepted plan → plan.version ≡ 1
    → nodes_of plan.levels ≤ most → IsPath most plan.levels
plan_path most plan accepted version few =
    accepted_path most plan.base plan.levels accepted.levels
    (subst (λ v. All (FitsVersion v) plan.levels) version accepted.fits) few

pub length-steps_of : (levels : List Level) → length (steps_of levels) ≡ 2 * length levels
length-steps_of [] = refl
length-steps_of (level ∷ below) =
    omega (
      arith,
      length-append (steps_of below) (level.blocks ∷ level.faults ∷ []),
      length-steps_of below,
    )
