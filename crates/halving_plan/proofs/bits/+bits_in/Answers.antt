use Rattle.std.proofs.Common.{ℕ, ◌<◌, ap, arith}
use Rattle.halving_plan.specs.Groups.{HalvingGroup, tree_in}
use Rattle.halving_plan.specs.Sizes.{most_bits}
use Rattle.halving_plan.proofs.GroupSizes.{bits_by_level}
use Rattle.halving_plan.proofs.bits.+bits_in.Goals as goal

pub returns-then-faults-eq0-clause-most : goal.returns-then-faults-eq0-clause-most
returns-then-faults-eq0-clause-most t c =
    let most = c.facts.ensures.most_modulus in
    let few = c.width.ensures.least 40 (omega (arith, most)) in omega (arith, few)

pub returns-clause-value : goal.returns-clause-value
returns-clause-value t c =
    let some : 0 < c.args.group.now.faults = omega arith in
    let bits : HalvingGroup → ℕ = λ g. most_bits (tree_in g) g.modulus in
    omega (
      arith,
      ap bits c.left.ensures,
      ap bits c.right.ensures,
      c.level_bits.ensures.value,
      c.bits_in-left.ensures.value,
      c.bits_in-right.ensures.value,
      bits_by_level c.args.group.now c.facts.ensures some,
    )
