use Rattle.std.proofs.Common.{◌<◌, Option, ap, arith}
use Rattle.halving_plan.specs.Groups.{HalvingGroup}
use Rattle.halving_plan.specs.Sizes.{fields_bits}
use Rattle.halving_plan.proofs.GroupFields.{fields_in_half}
use Rattle.halving_plan.proofs.GroupSizes.{node_by_level}
use Rattle.halving_plan.proofs.Most.{width_one}
use Rattle.halving_plan.proofs.bits.+bits_of.Goals as goal

pub returns-then-faults-eq0-clause-most : goal.returns-then-faults-eq0-clause-most
returns-then-faults-eq0-clause-most t c =
    let most = c.facts.ensures.most_modulus in
    let few = c.width.ensures.least 40 (omega (arith, most)) in omega (arith, few)

pub returns-in-Some-clause-value : goal.returns-in-Some-clause-value
returns-in-Some-clause-value t c =
    let v = c.args.node in
    let some : 0 < c.args.group.now.faults = omega arith in
    omega (
      arith,
      ap (λ (o : Option HalvingGroup). fields_bits (fields_in_half o v)) c.in-Some.ensures.value,
      c.level_bits.ensures.value,
      c.bits_of.ensures.value,
      node_by_level c.args.group.now v c.facts.ensures some c.requires,
    )

pub returns-in-None-clause-value : goal.returns-in-None-clause-value
returns-in-None-clause-value t c =
    let v = c.args.node in
    let some : 0 < c.args.group.now.faults = omega arith in
    omega (
      arith,
      ap (λ (o : Option HalvingGroup). fields_bits (fields_in_half o v)) c.in-None.ensures.value,
      c.level_bits-in-None.ensures.value,
      width_one,
      node_by_level c.args.group.now v c.facts.ensures some c.requires,
    )
