use Rattle.std.proofs.Common.{ℕ, ◌+◌, ◌≤◌, length, sym, ap, ◌∙◌, subst, arith}
use Rattle.shared_board.specs.Senders.{correct_in}
use Rattle.shared_board.specs.Boards.{Board}
use Rattle.shared_board.proofs.RegistersHeard.{correct_are}
use Rattle.tower.specs.Placings.{Placing, cost_of}
use Rattle.tower.proofs.groups.Placed.gather.Goals as goal

pub returns-clause-steps : goal.returns-clause-steps
returns-clause-steps g c =
    let p = c.self.inside in
    let board : Board = c.args.board.now in
    let first : ℕ = p.group.first in
    let nodes : ℕ = p.group.nums.nodes in
    let Within : Placing → Type 0 = λ q. q.group.first + q.group.nums.nodes ≤ length board.states in
    let within : first + nodes ≤ length board.states =
    subst Within (sym c.self.view_is) c.requires.within in
    let e = ap (λ s. length (correct_in s first nodes)) c.senders-senders.ensures
    ∙ ap length (correct_are board p.height first nodes within) in
    omega (arith, c.gather.ensures.steps, e, ap (cost_of board) c.self.view_is)
