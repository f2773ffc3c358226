use Rattle.std.proofs.Common.{Some, false, refl, ◌∙◌, arith}
use Rattle.sync_types.specs.declared.states.Reg.{Reg}
use Rattle.try_counters.specs.Repeats.{repeat_layer}
use Rattle.counter_core.proofs.Layers.{layered_one}
use Rattle.try_counters.proofs.counter_core_calls.RepeatOverlay.advance.Goals as goal

pub returns-clause-out : goal.returns-clause-out
returns-clause-out c =
    let self = c.args.self.now in
    let r : Reg = record { a = Some c.args.output; d = false } in
    let step = c.requires.step (omega arith) in
    let room = step.room in
    let layer = repeat_layer self.nodes self.modulus self.depth in
    c.set_reg.ensures ∙ layered_one layer c.args.out.now r refl (omega arith)
