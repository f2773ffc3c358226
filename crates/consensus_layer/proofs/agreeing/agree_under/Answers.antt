use Rattle.std.proofs.Common.{ℕ, length, ap, sym, ◌∙◌, Option}
use Rattle.std.proofs.lemmas.Iterator.Adapters.{option_map_id}
use Rattle.sync_types.specs.declared.states.Reg.{Reg}
use Rattle.construction.specs.PhaseKing.{instructed, without_increment}
use Rattle.counter_core.specs.HeardRegisters.{values_heard}
use Rattle.consensus_layer.proofs.agreeing.agree_under.Goals as goal

pub returns-clause-register : goal.returns-clause-register
returns-clause-register c =
    let h = c.args.values.now in
    let kind = c.args.kind in
    let own = c.at-own.result in
    let counted = c.count_for-counted.result in
    let by : Reg = without_increment
    (length h.states) h.faults kind own counted.same counted.least counted.king in
    c.agree_step.ensures.value
    ∙ ap (λ (n : ℕ). without_increment n c.faults.result kind own counted.same counted.least
    counted.king) c.nodes.ensures
    ∙ ap (λ (f : ℕ). without_increment
    (length h.states) f kind own counted.same counted.least counted.king) c.faults.ensures.value
    ∙ sym (ap (λ (a : Option ℕ). let r : Reg = record { a = a; d = by.d } in r)
    (option_map_id by.a))
    ∙ c.count_for-counted.ensures.suffices (λ a. a)
    ∙ ap (λ (own : Reg). instructed (length h.states) h.faults (λ a. a) kind own
    (values_heard h) c.args.king) c.at-own.ensures
