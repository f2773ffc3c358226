use Rattle.std.proofs.Common.{◌≡◌, true, List, sym, subst}
use Rattle.construction.specs.Plans.{Level, Plan}
use Rattle.plan_numbers.specs.Numbers.{levels_in}
use Rattle.shared_board.specs.Sharing.{Shares}
use Rattle.tower.specs.Settled.{IsSettled}
use Rattle.tower.specs.Sharing.{plan_of}
use Rattle.tower.proofs.Made.{made_states}
use Rattle.tower.proofs.SettledGroups.{all_settled}
use Rattle.tower.proofs.shared.Shared.is_settled.Goals as goal

pub returns-then-self : goal.returns-then-self
returns-then-self c = λ settled.
    let inside = c.self.inside in
    let i = c.self.invariant in
    let board = inside.board in
    let levels : List Level = levels_in inside.levels.items in
    let plan : Plan = plan_of inside.version inside.base inside.levels.items in
    let made : inside.is_made ≡ true = c.if-self.true in
    let groups = all_settled levels board inside.groups.items i.size i.depth i.keys i.ready
    (i.stand made) (i.settled settled) in
    subst (λ (s : Shares). IsSettled s.plan s.faulty s.states) c.self.view_is
    (subst (IsSettled plan board.faulty) (sym (made_states inside.is_made board.states made))
    groups)
