use Rattle.std.proofs.Common.{◌+◌, ◌≤◌, List, length, Some, set, ap, ap₂, ◌∙◌, arith}
use Rattle.sync_types.specs.declared.states.Reg.{Reg}
use Rattle.sync_types.specs.States.{State}
use Rattle.halving_plan.specs.WrittenLevelStates.{with_level_state_at}
use Rattle.halving_plan.proofs.WrittenStates.{two_set}
use Rattle.halving_plan.proofs.level_states.LevelState.write.Goals as goal

pub returns : goal.returns
returns c =
    let out = c.args.state.now in
    let s = c.self.inside in
    let r = c.register-register.result in
    let b : Reg = record { a = Some s.seen; d = s.trusted } in
    let deep : r + 2 ≤ length out.registers =
    omega (arith, c.requires, c.register-register.ensures) in
    c.set_reg-2.ensures
    ∙ (ap (λ (t : State). record t { registers = set t.registers (r + 1) b }) c.set_reg.ensures
    ∙ (ap (λ (rs : List Reg). record out { registers = rs })
    (two_set out.registers r s.register b deep)
    ∙ ap₂ (λ k p. with_level_state_at k p out) c.register-register.ensures c.self.view_is))
