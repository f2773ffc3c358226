use Rattle.std.proofs.Common.{◌≡◌, ℕ, ◌∙◌, unwrap_or, IfSome, ap, sym, subst}
use Rattle.construction.specs.PhaseKing.{locked_at}
use Rattle.phase_king.specs.Groups.{IsLockedGroup}
use Rattle.shared_board.specs.Senders.{is_liar, register_of}
use Rattle.shared_board.proofs.Registers.{locked_heard}
use Rattle.shared_board.proofs.group.Group.common_register.Goals as goal

-- each register of a settled group goes on
pub returns-in-Some : goal.returns-in-Some
returns-in-Some c = λ s node lies stands first last.
    let group = c.args.self.now in
    let nums = group.nums in
    let settled = stands.settled c.if-not-self.false in
    let value : ℕ = c.in-Some.value in
    let same : settled.0 ≡ value = ap (λ o. unwrap_or o 0) (sym settled.1 ∙ c.in-Some.is) in
    let locked : IsLockedGroup group.first nums.nodes nums.faults (is_liar s)
    (register_of s) value =
    subst (λ o. IfSome o (IsLockedGroup group.first nums.nodes nums.faults (is_liar s)
    (register_of s))) c.in-Some.is stands.locked in
    locked_heard s nums stands.room.numbers group.first node lies value locked
    (settled.2 node first last ∙ ap locked_at same)
    ∙ sym c.locked_next.ensures
