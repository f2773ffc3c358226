use Rattle.std.proofs.Common.{Err, refl, ap}
use Rattle.workbench.proofs.Whole.{lost, beyond, answered, unmet, untouched}
use Rattle.workbench.proofs.batch_word.batch.Goals as goal

pub returns-in-Err-ReadFault-clause-does : goal.returns-in-Err-ReadFault-clause-does
returns-in-Err-ReadFault-clause-does g c =
    let h = c.in-Err-ReadFault.ensures in
    let is = ap Err c.in-Err-ReadFault.field-0-is in
    lost c.args.command _ _ _ _ _ (h.within is) (h.fault is)

pub returns-in-Err-TooLong-clause-does : goal.returns-in-Err-TooLong-clause-does
returns-in-Err-TooLong-clause-does g c =
    let h = c.in-Err-TooLong.ensures in
    let is = ap Err c.in-Err-TooLong.field-0-is in
    beyond c.args.command _ _ _ _ _ (h.past is) (h.still is)

pub returns-in-Err-NoMemory-clause-does : goal.returns-in-Err-NoMemory-clause-does
returns-in-Err-NoMemory-clause-does g c =
    let h = c.in-Err-NoMemory.ensures in
    record { still = h.memory (ap Err c.in-Err-NoMemory.field-0-is); none = refl }

pub returns-clause-does : goal.returns-clause-does
returns-clause-does g c =
    let h = c.in-Ok.ensures in
    answered c.args.command _ _ _ _ g.K.Sink.told c.in-Ok.input.items
    (record { read = h.bytes; end = h.end }) h.ok h.short _ _ _
    (rw c.deref.ensures.value at c.answer.ensures)

pub returns-clause-untouched : goal.returns-clause-untouched
returns-clause-untouched g c =
    untouched g.K.Sink.told c.args.command c.in-Ok.input.items _ _ _
    (rw c.deref.ensures.value at c.answer.ensures)

pub returns-in-Err-ReadFault-clause-unmet : goal.returns-in-Err-ReadFault-clause-unmet
returns-in-Err-ReadFault-clause-unmet g c =
    c.in-Err-ReadFault.ensures.unmet (ap Err c.in-Err-ReadFault.field-0-is)

pub returns-clause-unmet : goal.returns-clause-unmet
returns-clause-unmet g c =
    unmet g.K.Sink.told c.args.command c.in-Ok.input.items _ _ _ _ _
    (rw c.deref.ensures.value at c.answer.ensures)
