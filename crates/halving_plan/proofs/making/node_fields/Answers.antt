use Rattle.std.proofs.Common.{◌≤◌, subst, sym, arith}
use Rattle.state_codec.specs.Shapes.{IsFields, bits_in}
use Rattle.halving_plan.proofs.FewBits.{few_bits}
use Rattle.halving_plan.proofs.Sound.{nodes_are, accepted_are_sound}
use Rattle.halving_plan.proofs.Kept.{same_fields}
use Rattle.halving_plan.proofs.making.node_fields.Goals as goal

pub new-requires-clause-limits : goal.new-requires-clause-limits
new-requires-clause-limits c =
    let plan = c.args.plan.now in
    let v = c.args.node in
    let same =
    same_fields plan v c.base_of.result c.in_ok-moduli.moduli.items c.base_of.ensures
    c.in_ok-moduli.ensures in
    subst IsFields (sym same)
    ((accepted_are_sound plan c.facts.ensures).fields v
    (omega (arith, c.requires, nodes_are plan c.facts.ensures)))

pub new-requires-clause-few : goal.new-requires-clause-few
new-requires-clause-few c =
    let plan = c.args.plan.now in
    let v = c.args.node in
    let same =
    same_fields plan v c.base_of.result c.in_ok-moduli.moduli.items c.base_of.ensures
    c.in_ok-moduli.ensures in
    subst (λ fields. bits_in fields ≤ 1024) (sym same)
    (omega (arith, few_bits plan c.facts.ensures v))
