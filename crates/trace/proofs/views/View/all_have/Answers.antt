use Rattle.std.proofs.Common.{◌≡◌, ℕ, ◌<◌, Bool, true, false, ◌||◌, length, sym, ap, ap₂, ◌∙◌}
use Rattle.std.proofs.Common.{arith}
use Rattle.std.proofs.Math.Bool.{or-true}
use Rattle.sync_types.specs.FaultSets.{is_in}
use Rattle.sync_types.specs.States.{register_at, zero_state}
use Rattle.construction.specs.Steps.{state_of}
use Rattle.machine_runner.specs.Locks.{is_locked_at}
use Rattle.trace.specs.Words.{all_have}
use Rattle.trace.proofs.GroupRegisters.{one_fails, one_passes}
use Rattle.counter_core.proofs.StateLists.{within}
use Rattle.trace.proofs.views.View.all_have.Goals as goal
use Rattle.trace.proofs.views.View.all_have.Goals.{
  else-not-contains-via-then-not-contains+else-not-is_locked_at,
}
use Rattle.trace.proofs.views.View.all_have.Goals.{else-not-contains-via-else-not-contains}

pub returns-then-not-is_locked_at : goal.returns-then-not-is_locked_at
returns-then-not-is_locked_at c =
    let view = c.args.self.now in
    let l : ℕ = c.args.register in
    let ids = view.faulty.now.ids in
    let config = view.config.now in
    let a = c.in-Some.a in
    let u = c.loop-u.u in
    let p : ℕ → Bool = λ w. is_in ids w || is_locked_at a (register_at l (state_of config w)) in
    let lt : u < length config = omega (arith, c.loop-u-test.true, c.requires.within) in
    let reg = c.reg-held.ensures
    ∙ ap (register_at l) (within config u c.index-self-u.result (zero_state 0) lt) in
    let no : p u ≡ false =
    ap₂ (λ x y. x || y) (sym c.contains.ensures ∙ c.if-not-contains.true)
    (ap (is_locked_at a) (sym reg) ∙ (sym c.is_locked_at.ensures ∙ c.if-not-is_locked_at.true)) in
    sym (ap (all_have l c.args.first c.args.many ids config) c.in-Some.is
    ∙ one_fails p c.args.first c.args.many u (omega (arith, c.loop-u.auto.u))
    (omega (arith, c.loop-u-test.true)) no)

pub loop-u-preserved : goal.loop-u-preserved
loop-u-preserved c =
    let view = c.args.self.now in
    let l : ℕ = c.args.register in
    let ids = view.faulty.now.ids in
    let config = view.config.now in
    let a = c.in-Some.a in
    let u = c.loop-u.u in
    let p : ℕ → Bool = λ w. is_in ids w || is_locked_at a (register_at l (state_of config w)) in
    let lt : u < length config = omega (arith, c.loop-u-test.true, c.requires.within) in
    let reg = c.reg-held.ensures
    ∙ ap (register_at l) (within config u c.index-self-u.result (zero_state 0) lt) in
    let here : Bool = is_locked_at a (register_at l (state_of config u)) in
    let yes : p u ≡ true = elim c.else-not-contains.branch [
      | else-not-contains-via-then-not-contains+else-not-is_locked_at w ↦
          ap (λ (b : Bool). is_in ids u || b) (ap (is_locked_at a) (sym reg)
          ∙ (sym w.is_locked_at.ensures ∙ w.if-not-is_locked_at.false))
          ∙ or-true (is_in ids u)
      | else-not-contains-via-else-not-contains w ↦
          ap (λ (b : Bool). b || here) (sym c.contains.ensures ∙ w.if-not-contains.false)
    ] in
    one_passes p c.args.first u (omega (arith, c.loop-u.auto.u)) c.loop-u.invariant yes
