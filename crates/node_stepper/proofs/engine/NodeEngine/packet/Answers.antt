use Rattle.std.proofs.Common.{rules, ◌∙◌, sym, subst}
use Rattle.machines.specs.Machines.{AreFronts}
use Rattle.machines.proofs.Fronts.{whole_fronts, written_whole}
use Rattle.node_stepper.proofs.Configurations.{room_again, stepping}
use Rattle.node_stepper.proofs.engine.NodeEngine.packet.Goals as goal

pub advance-requires-clause-heard : goal.advance-requires-clause-heard
advance-requires-clause-heard g c =
    let same = c.of-heard.ensures ∙ c.deref.ensures.value in
    subst (AreFronts (g.M.Machine.machine c.self.inside.machine)) (sym same)
    (whole_fronts (g.M.Machine.machine c.self.inside.machine) c.self.invariant.sound _
    c.self.invariant.among)

pub copy_from-requires : goal.copy_from-requires
copy_from-requires g c =
    let same = c.of-heard.ensures ∙ c.deref.ensures.value in
    room_again _ _ _ _ _ _ c.self.invariant _ same _ (c.advance.ensures.out ∙ written_whole _
    ((g.M.Machine.machine c.self.inside.machine).step c.self.inside.id c.of-heard.result)
    c.self.inside.next c.self.invariant.room) _
    c.index_mut.ensures.value

pub invariant_of-self : goal.invariant_of-self
invariant_of-self g c =
    let same = c.of-heard.ensures ∙ c.deref.ensures.value in
    let filled = c.fill.ensures in
    stepping _ _ _ _ _ _ c.self.invariant _ same _ (c.advance.ensures.out ∙ written_whole _
    ((g.M.Machine.machine c.self.inside.machine).step c.self.inside.id c.of-heard.result)
    c.self.inside.next c.self.invariant.room) _ c.copy_from.ensures _
    (search rules) _ c.advance.ensures.work
