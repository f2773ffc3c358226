use Rattle.std.proofs.Common.{true, false, refl}
use Rattle.sweep.proofs.Said.{said_more}
use Rattle.sweep.proofs.progress.Progress.say.Goals as goal

pub returns-in-Ok : goal.returns-in-Ok
returns-in-Ok g c = rw (← c.self.view_is) (λ start before later so.
    said_more g.K.Sink.told c.args.count start _ _ true before c.args.done later
    c.if-not-self.false refl refl c.if-not-self.false c.in-Ok.ensures so)

pub returns-in-Err : goal.returns-in-Err
returns-in-Err g c = rw (← c.self.view_is) (λ start before later so.
    said_more g.K.Sink.told c.args.count start _ _ false before c.args.done later
    c.if-not-self.false refl refl refl c.in-Err.ensures so)
