use Rattle.std.proofs.Common.{Bool, ◌||◌, ◌+◌, ap, sym, ◌∙◌}
use Rattle.run_checker.specs.Checking.{needs_state}
use Rattle.run_checker.proofs.Ranges.{one_needs}
use Rattle.run_checker.proofs.id_lists.needs_state.Goals as goal

pub loop-v-preserved : goal.loop-v-preserved
loop-v-preserved c =
    c.loop-v.invariant
    ∙
    (one_needs c.args.unknown.now.ids c.args.faulty.now.ids c.loop-v.v c.args.to
    c.loop-v-test.true
    ∙ ap
    (λ (b : Bool). b
    || needs_state c.args.unknown.now.ids c.args.faulty.now.ids (c.loop-v.v + 1) c.args.to)
    (sym c.needs.ensures ∙ c.if-needs.false))
