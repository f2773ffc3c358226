use Rattle.std.proofs.Common.{◌+◌, ◌-◌, ◌*◌}
use Rattle.halving_plan.proofs.Numbers.{faults_of_tree, bound_of_tree}
use Rattle.halving_plan.proofs.Settles.{one_half_is_sound, halves_settle}
use Rattle.halving_plan.proofs.RunLaws.{every_tree_settles}
use Rattle.halving_plan.specs.Plans.{tree_of}
use Rattle.halving_plan.proofs.Trees.{nodes_with_spares, ten_each}
use Rattle.halving_plan.proofs.laws.every_plan_settles.Goals as goal

pub returns : goal.returns
returns c = λ plan is. record {
  nodes = nodes_with_spares plan.nodes plan.faults is.quorum is.single;
  faults = faults_of_tree plan.faults (plan.nodes - (3 * plan.faults + 1));
  bound = bound_of_tree plan.faults (plan.nodes - (3 * plan.faults + 1));
  each = ten_each plan.faults (plan.nodes - (3 * plan.faults + 1));
  settles =
      every_tree_settles one_half_is_sound halves_settle (tree_of plan) plan.modulus
      is.least_modulus;
}
