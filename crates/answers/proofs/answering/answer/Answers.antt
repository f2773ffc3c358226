use Rattle.answers.proofs.Ended.{text_ends, text_cut, refusal_ends, refusal_cut}
use Rattle.answers.proofs.answering.answer.Goals as goal

pub returns-in-Ok : goal.returns-in-Ok
returns-in-Ok g c = text_ends g.K.Sink.told _ _ _ c.in-Ok.ensures

pub returns-in-Err-NoMemory : goal.returns-in-Err-NoMemory
returns-in-Err-NoMemory g c = rw c.in-Err-NoMemory.field-0-is at c.in-Err-NoMemory.ensures

pub returns-in-Err-WriteFault : goal.returns-in-Err-WriteFault
returns-in-Err-WriteFault g c =
    let cut = rw c.in-Err-WriteFault.field-0-is at c.in-Err-WriteFault.ensures in
    text_cut g.K.Sink.told _ _ _ cut

pub returns-in-Ok-put_refusal : goal.returns-in-Ok-put_refusal
returns-in-Ok-put_refusal g c =
    let none = rw c.in-Err-Refused.field-0-is at c.in-Err-Refused.ensures in
    rw c.status.ensures (refusal_ends g.K.Sink.told _ _ _ _ _ none c.in-Ok-put_refusal.ensures)

pub returns-in-Err : goal.returns-in-Err
returns-in-Err g c =
    let none = rw c.in-Err-Refused.field-0-is at c.in-Err-Refused.ensures in
    refusal_cut g.K.Sink.told _ _ _ _ _ none c.in-Err.ensures
