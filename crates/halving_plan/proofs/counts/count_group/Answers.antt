use Rattle.std.proofs.Common.{◌≡◌, ◌+◌, ◌<◌, Bool, cond, length, nat_eq, unwrap_or, ap, ◌∙◌, arith}
use Rattle.std.specs.Option.{option_eq}
use Rattle.sync_types.specs.declared.states.Reg.{Reg}
use Rattle.sync_types.specs.States.{State, zero_state, register_at}
use Rattle.construction.specs.Steps.{state_of}
use Rattle.halving_plan.specs.LevelStates.{LevelState}
use Rattle.halving_plan.proofs.Lists.{one_more_counted, one_at_most}
use Rattle.halving_plan.proofs.counts.count_group.Goals as goal

pub loop-i-preserved : goal.loop-i-preserved
loop-i-preserved c =
    let g = c.args.group.now in
    let own = c.args.own.now in
    let r = g.register in
    let heard = c.args.heard.now in
    let i = c.loop-i.i in
    let s = c.state-state.result.now in
    let lt : g.first + i < length heard =
    omega (arith, c.loop-i-test.true, c.loop-i.auto.i-end, c.requires.within, c.nodes-i-end.ensures)
    in
    let at : s ≡ state_of heard (g.first + i) =
    c.state-state.ensures ∙ ap (λ k. state_of heard (k + i)) c.first-first.ensures in
    let register = c.register-register.ensures in
    let shown : c.unwrap_or.result ≡ unwrap_or (register_at (r + 1) s).a 0 =
    c.unwrap_or.ensures
    ∙ ap (λ (q : Reg). unwrap_or q.a 0) (c.reg.ensures ∙ ap (λ k. register_at (k + 1) s) register)
    in
    let saw : c.one_if-saw.result
    ≡ cond (nat_eq own.seen (unwrap_or (register_at (r + 1) s).a 0)) 1 0 =
    c.one_if-saw.ensures
    ∙ (ap (λ x. cond (nat_eq c.own.inside.seen x) 1 0) shown
    ∙ ap (λ (p : LevelState). cond (nat_eq p.seen (unwrap_or (register_at (r + 1) s).a 0)) 1 0)
    c.own.view_is) in
    let same : c.one_if-same.result
    ≡ cond (option_eq nat_eq own.register.a (register_at r s).a) 1 0 =
    c.one_if-same.ensures
    ∙ ap (λ (b : Bool). cond b 1 0) (c.eq.ensures
    ∙ (ap (λ (q : Reg). option_eq nat_eq c.own.inside.register.a q.a)
    (c.reg-in-loop-i.ensures ∙ ap (λ k. register_at k s) register)
    ∙ ap (λ (p : LevelState). option_eq nat_eq p.register.a (register_at r s).a) c.own.view_is)) in
    let most_saw = one_at_most (nat_eq own.seen (unwrap_or (register_at (r + 1) s).a 0))
    c.one_if-saw.result saw in
    let most = one_at_most (option_eq nat_eq own.register.a (register_at r s).a)
    c.one_if-same.result same in
    let before = c.loop-i.invariant in
    record {
      saw = one_more_counted
          (λ (q : State). nat_eq own.seen (unwrap_or (register_at (r + 1) q).a 0)) g.first i heard
          s (zero_state 0) c.loop-i.saw c.one_if-saw.result lt at before.saw saw;
      same = one_more_counted
          (λ (q : State). option_eq nat_eq own.register.a (register_at r q).a) g.first i
          heard s (zero_state 0) c.loop-i.same c.one_if-same.result lt at before.same same;
      few_saw = omega (arith, before.few_saw, most_saw);
      few = omega (arith, before.few, most);
    }
