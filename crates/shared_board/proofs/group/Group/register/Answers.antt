use Rattle.std.proofs.Common.{ℕ, ◌<◌, ◌∙◌, IfSome, refl, sym, subst}
use Rattle.phase_king.specs.Groups.{IsLockedGroup}
use Rattle.shared_board.specs.Senders.{is_liar, register_of}
use Rattle.shared_board.specs.GroupVotes.{contents}
use Rattle.shared_board.proofs.Registers.{locked_heard, obeyed, beat_of_group, beat_below}
use Rattle.shared_board.proofs.group.Group.register.Goals as goal

-- a register that is locked with its group goes on
pub returns-clause-register : goal.returns-clause-register
returns-clause-register g c =
    let group = c.args.self.now in
    let nums = group.nums in
    let s = c.args.senders.now in
    let value : ℕ = c.in-Some.value in
    let locked : IsLockedGroup group.first nums.nodes nums.faults (is_liar s)
    (register_of s) value =
    subst (λ o. IfSome o (IsLockedGroup group.first nums.nodes nums.faults (is_liar s)
    (register_of s))) c.in-Some.is c.requires.stands.locked in
    c.locked_next.ensures
    ∙ sym (locked_heard s nums c.requires.stands.room.numbers group.first c.args.node
    c.args.lies.now value locked
    (sym c.register-own.ensures ∙ c.if-is_locked_at.ensures.0 refl))

-- the beat is one
pub obey-requires-clause-beat : goal.obey-requires-clause-beat
obey-requires-clause-beat g c =
    subst (λ b. b < c.args.self.now.nums.beat) (sym c.beat_heard-beat.ensures.beat)
    (beat_below c.args.senders.now
    (contents c.args.self.now) c.requires.stands.room c.args.lies.now)

-- the instruction of the beat heard
pub returns-2-clause-register : goal.returns-2-clause-register
returns-2-clause-register g c =
    let group = c.args.self.now in
    let s = c.args.senders.now in
    c.obey.ensures.register
    ∙ obeyed s group.nums c.requires.stands.room.numbers group.first c.args.node c.args.lies.now
    c.beat_heard-beat.result c.register-own.result c.register-own.ensures
    (c.beat_heard-beat.ensures.beat
    ∙ beat_of_group s (contents group) c.requires.stands.room c.args.lies.now)
