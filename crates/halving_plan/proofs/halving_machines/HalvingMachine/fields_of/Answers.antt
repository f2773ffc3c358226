use Rattle.std.proofs.Common.{◌∙◌, ap, length, rules}
use Rattle.halving_plan.proofs.Sound.{accepted_are_sound}
use Rattle.halving_plan.proofs.Kept.{index_is, fields_are}
use Rattle.halving_plan.proofs.halving_machines.HalvingMachine.fields_of.Goals as goal

pub index-requires : goal.index-requires
index-requires c =
    let lt = index_is c.self.inside.plan c.self.inside.fields.items c.self.invariant c.args.v
    (rw (← c.self.view_is) at c.requires) in
    search rules

pub returns-clause-value : goal.returns-clause-value
returns-clause-value c =
    rw (← c.self.view_is)
    (fields_are c.self.inside.plan c.self.inside.fields.items c.self.invariant c.args.v
    (rw (← c.self.view_is) at c.requires) c.index.result.now c.index.ensures)

pub returns-clause-depth : goal.returns-clause-depth
returns-clause-depth c =
    let lt = rw (← c.self.view_is) at c.requires in
    rw (← c.self.view_is)
    (ap (λ fields. length fields.moduli)
    (fields_are c.self.inside.plan c.self.inside.fields.items c.self.invariant c.args.v lt
    c.index.result.now c.index.ensures)
    ∙ (accepted_are_sound c.self.inside.plan c.self.invariant.accepted).depth c.args.v lt)
