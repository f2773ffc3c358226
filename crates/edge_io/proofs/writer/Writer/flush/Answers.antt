use Rattle.std.proofs.Common.{refl}
use Rattle.texts.proofs.Growth.{wrote_none, cut_then, passed_none}
use Rattle.edge_io.proofs.Held.{part_is, held_passed}
use Rattle.edge_io.proofs.writer.Writer.flush.Goals as goal

pub loop-self-init : goal.loop-self-init
loop-self-init g c = record { still = refl; same = refl; wrote = wrote_none _ }

pub loop-self-preserved : goal.loop-self-preserved
loop-self-preserved g c = record {
  still = c.loop-self.invariant.still;
  same = c.loop-self.invariant.same;
  wrote = held_passed _ c.loop-self.self.at c.loop-self.self.end c.in-Ok.count
      c.loop-self.self.buffer _ _ _ c.loop-self.self.within c.in-Ok.ensures.bound
      c.loop-self.invariant.wrote c.in-Ok.ensures.bytes c.in-Ok.ensures.cause
      c.in-Ok.ensures.uses c.in-Ok.ensures.follows;
}

pub returns-in-Err-clause-puts : goal.returns-in-Err-clause-puts
returns-in-Err-clause-puts g c =
    let self = c.loop-self.self in
    let failed = c.in-Err.ensures in
    let part = part_is self.buffer self.at self.end self.within in
    cut_then _ _ _ _ _ c.loop-self.invariant.wrote
    (passed_none _ _ _ _ failed.bytes failed.cause (rw (← part) failed.uses) failed.follows
    (rw (← part) failed.missed))
