use Rattle.std.proofs.Common.{◌≡◌, ◌+◌, ◌<◌, cond, nat_eq, length}
use Rattle.std.proofs.Common.{ap, ◌∙◌, arith}
use Rattle.sync_types.specs.States.{State, zero_state}
use Rattle.construction.specs.Steps.{state_of}
use Rattle.halving_plan.specs.GroupHearing.{shown_by}
use Rattle.halving_plan.proofs.Lists.{one_more_counted, one_at_most}
use Rattle.halving_plan.proofs.hearing.count_showing.Goals as goal

pub loop-i-preserved : goal.loop-i-preserved
loop-i-preserved c =
    let half = c.args.half.now in
    let heard = c.args.heard.now in
    let i = c.loop-i.i in
    let number = c.args.number in
    let s = c.state-state.result.now in
    let lt : half.first + i < length heard =
    omega (arith, c.loop-i-test.true, c.loop-i.auto.i-end, c.requires.within, c.nodes-i-end.ensures)
    in
    let at : s ≡ state_of heard (half.first + i) =
    c.state-state.ensures ∙ ap (λ k. state_of heard (k + i)) c.first-first.ensures in
    let one : c.one_if-count.result ≡ cond (nat_eq number (shown_by half s)) 1 0 =
    c.one_if-count.ensures ∙ ap (λ x. cond (nat_eq number x) 1 0) c.output_in.ensures in
    let most = one_at_most (nat_eq number (shown_by half s)) c.one_if-count.result one in
    record {
      count = one_more_counted (λ (q : State). nat_eq number (shown_by half q)) half.first i heard s
          (zero_state 0) c.loop-i.count c.one_if-count.result lt at c.loop-i.invariant.count one;
      few = omega (arith, c.loop-i.invariant.few, most);
    }
