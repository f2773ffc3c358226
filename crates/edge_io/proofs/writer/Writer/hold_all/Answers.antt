use Rattle.edge_io.proofs.Held.{held_all}
use Rattle.edge_io.proofs.writer.Writer.hold_all.Goals as goal

pub returns-clause-wrote : goal.returns-clause-wrote
returns-clause-wrote g c = let self = c.args.self.now in
    held_all _ self.at self.end self.buffer c.place.new.buffer c.args.bytes.now _ _ self.within
    self.room c.place.ensures
