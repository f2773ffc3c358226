use Rattle.std.proofs.Common.{◌≡◌, ℕ, ◌+◌, ◌-◌, ◌<◌, cond, count_by, nat_eq, take, drop, length}
use Rattle.std.proofs.Common.{refl, sym, ap, ◌∙◌, subst, arith, ◌≤◌}
use Rattle.sync_types.specs.States.{State, zero_state}
use Rattle.construction.specs.Steps.{state_of}
use Rattle.halving_plan.specs.GroupHearing.{shown_by}
use Rattle.halving_plan.proofs.Lists.{one_more_counted}
use Rattle.halving_plan.proofs.Lead.{IsLead, IsNext, leads_more, leads_less, leads_now, lead_as}
use Rattle.halving_plan.proofs.Lead.{others_few}
use Rattle.halving_plan.proofs.hearing.candidate.Goals as goal
use Rattle.halving_plan.proofs.hearing.candidate.Goals.{then-output-number}
use Rattle.halving_plan.proofs.hearing.candidate.Goals.{else-output-number+then-lead-eq0}
use Rattle.halving_plan.proofs.hearing.candidate.Goals.{else-output-number+else-lead-eq0}

pub loop-i-preserved : goal.loop-i-preserved
loop-i-preserved c =
    let half = c.args.half.now in
    let heard = c.args.heard.now in
    let i = c.loop-i.i in
    let number = c.loop-i.number in
    let lead = c.loop-i.lead in
    let s = c.state.result.now in
    let a = c.output_in-output.result in
    let lt : half.first + i < length heard =
    omega (arith, c.loop-i-test.true, c.loop-i.auto.i-end, c.requires.within, c.nodes-i-end.ensures)
    in
    let at : s ≡ state_of heard (half.first + i) =
    c.state.ensures ∙ ap (λ k. state_of heard (k + i)) c.first-first.ensures in
    let count : ℕ → ℕ =
    λ z. count_by (λ (q : State). nat_eq z (shown_by half q)) (take i (drop half.first heard)) in
    let next : ℕ → ℕ =
    λ z. count_by (λ (q : State). nat_eq z (shown_by half q)) (take (i + 1) (drop half.first heard))
    in
    let more : IsNext count next a = record {
      is = λ z. sym (one_more_counted (λ (q : State). nat_eq z (shown_by half q)) half.first i heard
          s (zero_state 0) (count z) (cond (nat_eq z a) 1 0) lt at refl
          (ap (λ x. cond (nat_eq z x) 1 0) c.output_in-output.ensures));
    } in
    let was : IsLead count i number lead = c.loop-i.invariant in
    elim c.if-output-number.branch [
      | then-output-number w ↦ lead_as next (i + 1) number (lead + 1) _ _ w.number-is w.lead-is
          (leads_more count next i number lead a more was (omega (arith, w.if-output-number.true)))
      | else-output-number+then-lead-eq0 w ↦ lead_as next (i + 1) a 1 _ _ w.number-is w.lead-is
          (leads_now count next i number lead a more was
          (λ e. absurd (omega (arith, e, w.if-output-number.false))) (omega (arith, w.if-lead-eq0.true)))
      | else-output-number+else-lead-eq0 w ↦
          lead_as next (i + 1) number (lead - 1) _ _ w.number-is w.lead-is
          (leads_less count next i number lead a more was
          (λ e. absurd (omega (arith, e, w.if-output-number.false)))
          (omega (arith, w.if-lead-eq0.false)))
    ]

pub returns-clause-others : goal.returns-clause-others
returns-clause-others c = λ z ne.
    let half = c.args.half.now in
    let all = drop half.first c.args.heard.now in
    let i : c.loop-i.i ≡ half.nodes =
    omega (arith, c.loop-i-test.false, c.loop-i.auto.i-end, c.nodes-i-end.ensures) in
    let count : (n : ℕ) (z : ℕ) → ℕ =
    λ n z. count_by (λ (q : State). nat_eq z (shown_by half q)) (take n all) in
    others_few (count c.loop-i.i) (count half.nodes) c.loop-i.i c.loop-i.number c.loop-i.lead
    half.nodes c.loop-i.invariant i (λ z. ap (λ n. count n z) (sym i)) z ne

pub returns-clause-own : goal.returns-clause-own
returns-clause-own c =
    let half = c.args.half.now in
    let all = drop half.first c.args.heard.now in
    let number = c.loop-i.number in
    let i : c.loop-i.i ≡ half.nodes =
    omega (arith, c.loop-i-test.false, c.loop-i.auto.i-end, c.nodes-i-end.ensures) in
    subst (λ (n : ℕ). c.loop-i.lead
    ≤ count_by (λ (q : State). nat_eq number (shown_by half q)) (take n all)) i
    c.loop-i.invariant.some
