use Rattle.std.proofs.Common.{◌+◌, length, nat_eq, ap, sym, ◌∙◌}
use Rattle.std.proofs.Common.{arith}
use Rattle.std.proofs.lemmas.Bool.{false≢true}
use Rattle.std.specs.Option.{option_eq}
use Rattle.counting.proofs.Counts.{same_value, value_itself}
use Rattle.counter_core.specs.HeardRegisters.{RegisterHeard, values_heard}
use Rattle.counter_core.proofs.Quorum.{value_at, one_more, none_more}
use Rattle.counter_core.proofs.heard_registers.HeardRegister.count_of.Goals as goal
use Rattle.counter_core.proofs.heard_registers.HeardRegister.count_of.Goals.{then-eq, else-eq}

pub loop-place-preserved : goal.loop-place-preserved
loop-place-preserved c =
    let h = c.args.self.now in
    let place = c.loop-place.place in
    let size = ap (λ (h : RegisterHeard). length h.states) c.self.view_is in
    let at = value_at h place c.at.result
    (omega (arith, c.loop-place-test.true, c.loop-place.auto.place-end, c.self.invariant.0, size))
    c.at.ensures in
    elim c.if-eq.branch [
      | then-eq w ↦ record {
        counted = w.count-is ∙ ap (λ n. n + 1) c.loop-place.invariant.counted
            ∙ sym (one_more (values_heard h) place _ _ at.0 at.1
            (same_value _ _ (sym c.eq.ensures ∙ w.if-eq.true)));
        few = omega (arith, w.count-is, c.loop-place.invariant.few);
      }
      | else-eq w ↦ record {
        counted = w.count-is ∙ c.loop-place.invariant.counted
            ∙ sym (none_more (values_heard h) place _ _ at.0 at.1
            (λ e. false≢true (sym w.if-eq.false ∙ c.eq.ensures
            ∙ ap (λ o. option_eq nat_eq o c.args.value) e ∙ value_itself c.args.value)));
        few = omega (arith, w.count-is, c.loop-place.invariant.few);
      }
    ]
