use Rattle.std.proofs.Common.{length, ap, arith}
use Rattle.counting.proofs.Places.{stretches}
use Rattle.shared_board.specs.Senders.{is_liar, register_of}
use Rattle.shared_board.proofs.Heard.{correct_count}
use Rattle.shared_board.proofs.LockedGroups.{locked_group, locked_if}
use Rattle.shared_board.proofs.stretches.NodeRange.lock.Goals as goal

-- all registers are locked, those of the correct ones among them
pub returns-then-liars-faults-clause-value : goal.returns-then-liars-faults-clause-value
returns-then-liars-faults-clause-value c =
    let at = c.args.self.now in
    locked_group at.first at.count c.args.faults c.liars.result (is_liar at.senders.now)
    (register_of at.senders.now) c.in-Some.value
    c.requires c.liars.ensures c.if-liars-faults.true
    (λ v le lt ok. c.all_locked.ensures.0 c.if-all_locked.true v le lt)

-- those of the correct ones are, or there is no correct one
pub returns-then-liars-faults-2-clause-value : goal.returns-then-liars-faults-2-clause-value
returns-then-liars-faults-2-clause-value c =
    let at = c.args.self.now in
    locked_if at.first at.count c.args.faults c.liars.result (is_liar at.senders.now)
    (register_of at.senders.now) c.correct_value.result
    c.requires c.liars.ensures c.if-liars-faults.true c.correct_value.ensures.some

pub returns-then-liars-faults-2-clause-none : goal.returns-then-liars-faults-2-clause-none
returns-then-liars-faults-2-clause-none c = λ none value group.
    let at = c.args.self.now in
    let few = ap length (c.correct_value.ensures.none none value group.locked) in
    omega (
      arith,
      few,
      c.requires,
      c.if-liars-faults.true,
      c.liars.ensures,
      correct_count
          at.senders.now at.first at.count at.within,
    )

-- it has more liars than it tolerates
pub returns-clause-none : goal.returns-clause-none
returns-clause-none c = λ _ value group.
    let at = c.args.self.now in
    omega (
      arith,
      c.liars.ensures,
      c.if-liars-faults.false,
      group.few,
      stretches
          (is_liar at.senders.now) at.first at.count,
    )
