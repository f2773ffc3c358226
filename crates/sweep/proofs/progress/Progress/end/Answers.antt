use Rattle.std.proofs.Common.{◌∙◌, sym, true, false}
use Rattle.std.proofs.lemmas.Bool.{true≢false}
use Rattle.sweep.proofs.Said.{said_off, said_wiped}
use Rattle.sweep.proofs.progress.Progress.end.Goals as goal

pub returns-then-not-self : goal.returns-then-not-self
returns-then-not-self g c = rw (← c.self.view_is) (λ start count so.
    said_off g.K.Sink.told count start _
    (λ on. absurd (true≢false (sym on ∙ c.if-not-self.true))) so)

pub returns-then-not-self-2 : goal.returns-then-not-self-2
returns-then-not-self-2 g c = rw (← c.self.view_is) (λ start count so.
    said_off g.K.Sink.told count start _ (λ on. c.if-not-self-2.true) so)

pub returns-in-Ok : goal.returns-in-Ok
returns-in-Ok g c = rw (← c.self.view_is) (λ start count so.
    said_wiped g.K.Sink.told count start _ c.put_all.new.sink true
    c.if-not-self.false c.if-not-self-2.false c.in-Ok.ensures so)

pub returns-in-Err : goal.returns-in-Err
returns-in-Err g c = rw (← c.self.view_is) (λ start count so.
    said_wiped g.K.Sink.told count start _ c.put_all.new.sink false
    c.if-not-self.false c.if-not-self-2.false c.in-Err.ensures so)
