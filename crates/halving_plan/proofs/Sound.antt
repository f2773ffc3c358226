-- The machine of an accepted plan is sound.
use Rattle.std.proofs.Common.{◌≡◌, arith}
use Rattle.halving_plan.specs.Trees.{tree_nodes}
use Rattle.halving_plan.proofs.TreeSound.{machines_are_sound}
use Rattle.halving_plan.specs.Plans.{HalvingNumbers, IsAccepted, tree_of}
use Rattle.halving_plan.specs.Laws.{AcceptedAreSound}
use Rattle.halving_plan.proofs.Trees.{nodes_with_spares}

-- its tree has all nodes
pub nodes_are : (plan : HalvingNumbers) → IsAccepted plan → tree_nodes (tree_of plan) ≡ plan.nodes
nodes_are plan is = nodes_with_spares plan.nodes plan.faults is.quorum is.single

pub accepted_are_sound : AcceptedAreSound
accepted_are_sound plan is =
    let most = is.most_nodes in
    machines_are_sound (tree_of plan) plan.modulus is.least_modulus is.most_modulus
    (omega (arith, nodes_are plan is))
