use Rattle.std.proofs.Common.{◌≡◌, ℕ, List, sym, ◌∙◌, subst}
use Rattle.sync_types.specs.States.{State}
use Rattle.shared_board.specs.Senders.{Sent, IsTold, TellsItself}
use Rattle.shared_board.specs.GroupVotes.{Stands, contents, register_heard}
use Rattle.shared_board.specs.Boards.{Board, sent_of}
use Rattle.tower.specs.Heeding.{Holds, IsShut}
use Rattle.tower.proofs.groups.Placed.is_open.Goals as goal

-- all registers of a settled group go on
pub returns-in-Some : goal.returns-in-Some
returns-in-Some c = λ _.
    let board : Board = c.args.board.now in
    let node : ℕ = c.args.node in
    let holds = subst (Holds board node) (sym c.self.view_is) c.requires in
    let s : Sent = sent_of board c.self.inside.height in
    let goes = c.in-Some.ensures in
    subst (IsShut board node) c.self.view_is (λ lies told is_lies is_told own_lies own_told.
    goes s node lies holds.stands holds.first holds.last
    ∙ sym (goes s node told holds.stands holds.first holds.last))

pub is_open-requires-clause-stands : goal.is_open-requires-clause-stands
is_open-requires-clause-stands c =
    let holds = subst (Holds c.args.board.now c.args.node) (sym c.self.view_is) c.requires in
    subst (λ (s : Sent). Stands s (contents c.self.inside.group))
    (sym c.senders-senders.ensures) holds.stands

pub returns : goal.returns
returns c = λ shut.
    let p = c.self.inside in
    let node : ℕ = c.args.node in
    let Shut : Sent → Type 0 = λ s. (lies told : List State) → IsTold s lies → IsTold s told
    → TellsItself s lies node → TellsItself s told node
    → register_heard s p.group.nums p.group.first node lies
    ≡ register_heard s p.group.nums p.group.first node told in
    subst (IsShut c.args.board.now node) c.self.view_is
    (subst Shut c.senders-senders.ensures (c.is_open.ensures shut))
