use Rattle.std.proofs.Common.{ℕ, ◌+◌, ◌≤◌, length, sym, ap, ◌∙◌, subst, arith}
use Rattle.shared_board.specs.Senders.{Sent, IsTold, liars_in}
use Rattle.shared_board.specs.GroupVotes.{register_heard}
use Rattle.shared_board.specs.Boards.{Board}
use Rattle.shared_board.proofs.RegistersHeard.{told_is, few_in}
use Rattle.tower.specs.Placings.{Placing, register_by}
use Rattle.tower.proofs.groups.Placed.register.Goals as goal

pub register-requires-clause-told : goal.register-requires-clause-told
register-requires-clause-told g c =
    subst (λ (s : Sent). IsTold s c.args.lies.now) (sym c.senders-senders.ensures)
    (told_is c.args.board.now c.self.inside.height c.facts.ensures.liars c.args.lies.now
    c.requires.told)

pub returns-clause-register : goal.returns-clause-register
returns-clause-register g c =
    let p = c.self.inside in
    c.register.ensures.register
    ∙ (ap (λ s. register_heard s p.group.nums p.group.first c.args.node c.args.lies.now)
    c.senders-senders.ensures
    ∙ ap (register_by c.args.board.now c.args.node c.args.lies.now) c.self.view_is)

pub returns-clause-steps : goal.returns-clause-steps
returns-clause-steps g c =
    let p = c.self.inside in
    let board : Board = c.args.board.now in
    let first : ℕ = p.group.first in
    let nodes : ℕ = p.group.nums.nodes in
    let Within : Placing → Type 0 = λ q. q.group.first + q.group.nums.nodes ≤ length board.states in
    let within : first + nodes ≤ length board.states =
    subst Within (sym c.self.view_is) c.requires.within in
    let e = ap (λ s. liars_in s first nodes) c.senders-senders.ensures in
    omega (
      arith,
      c.register.ensures.steps,
      e,
      few_in board p.height c.facts.ensures.liars first
          nodes within,
    )
