use Rattle.std.proofs.Common.{ℕ, ◌/◌, ◌%◌, Option, length, map, take, ap, sym, ◌∙◌}
use Rattle.sync_types.specs.declared.states.Reg.{Reg}
use Rattle.sync_types.specs.States.{State, register_at}
use Rattle.construction.specs.PhaseKing.{instructed, incremented, without_increment, up}
use Rattle.construction.specs.Steps.{state_of}
use Rattle.construction.specs.Votes.{beat_heard}
use Rattle.plan_numbers.specs.Numbers.{level_of}
use Rattle.counter_core.specs.HeardRegisters.{RegisterHeard, heard_at, values_heard}
use Rattle.boost_step.specs.Numbers.{block_nodes, in_blocks}
use Rattle.boost_step.proofs.Numbers.{related}
use Rattle.boost_step.proofs.level.level_step.Goals as goal

pub returns-clause-register : goal.returns-clause-register
returns-clause-register c =
    let nums = c.args.nums.now in
    let own = register_at c.args.register (state_of c.args.heard.now c.args.place) in
    let value : State → Option ℕ = λ s. (register_at c.args.register s).a in
    let values = map value c.args.heard.now in
    let beat = beat_heard (level_of nums) (block_nodes nums)
    (take (in_blocks nums) c.args.work.now.outputs.items) in
    let h = c.of-values.result in
    let next = up nums.modulus in
    let kind = c.beat-beat.result % 3 in
    let counted = c.count_for-counted.result in
    let size = ap (λ (h : RegisterHeard). length h.states) c.of-values.ensures
    ∙ c.requires.heard in
    let faults = ap (λ (h : RegisterHeard). h.faults) c.of-values.ensures in
    c.king_step.ensures.value
    ∙ (ap (λ (n : ℕ). incremented next
    (without_increment n nums.faults kind c.at-own.result counted.same counted.least
    counted.king)) (sym size)
    ∙ ap (λ (f : ℕ). incremented next
    (without_increment (length h.states) f kind c.at-own.result counted.same counted.least
    counted.king)) (sym faults)
    ∙ c.count_for-counted.ensures.suffices next
    ∙ ap (λ (own : Reg). instructed (length h.states) h.faults next kind own (values_heard h)
    (c.beat-beat.result / 3)) c.at-own.ensures
    ∙ ap (λ (h : RegisterHeard). instructed (length h.states) h.faults (up nums.modulus)
    (c.beat-beat.result % 3) (heard_at h c.args.place) (values_heard h) (c.beat-beat.result / 3))
    c.of-values.ensures
    ∙ ap (λ (n : ℕ). instructed n nums.faults (up nums.modulus) (c.beat-beat.result % 3) own values
    (c.beat-beat.result / 3)) c.requires.heard
    ∙ ap (λ b. instructed nums.nodes nums.faults (up nums.modulus) (b % 3) own values (b / 3))
    c.beat-beat.ensures.beat
    ∙ ap (λ k. instructed k nums.faults (up nums.modulus) (beat % 3) own values (beat / 3))
    (related nums c.requires.numbers).nodes)
