use Rattle.std.proofs.Common.{◌<◌, Option, ap, sym, ◌∙◌, arith}
use Rattle.halving_plan.specs.Runs.{Fields}
use Rattle.halving_plan.specs.Groups.{HalvingGroup}
use Rattle.halving_plan.proofs.GroupFields.{fields_by_level, fields_in_half}
use Rattle.halving_plan.proofs.fields.+base_in.Goals as goal

pub returns-in-Some : goal.returns-in-Some
returns-in-Some t c =
    let g = c.args.group.now in
    let v = c.args.node in
    let some : 0 < g.faults = omega arith in
    c.base_in.ensures
    ∙ (ap (λ (o : Option HalvingGroup). (fields_in_half o v).base) c.in-Some.ensures.value
    ∙ sym (ap (λ (f : Fields). f.base)
    (fields_by_level g v c.facts.ensures some c.requires)))

pub returns-in-None : goal.returns-in-None
returns-in-None t c =
    let g = c.args.group.now in
    let v = c.args.node in
    let some : 0 < g.faults = omega arith in
    ap (λ (o : Option HalvingGroup). (fields_in_half o v).base) c.in-None.ensures.value
    ∙ sym (ap (λ (f : Fields). f.base)
    (fields_by_level g v c.facts.ensures some c.requires))
