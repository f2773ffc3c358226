use Rattle.edge_io.specs.Rising.{labelled_text}
use Rattle.edge_io.proofs.Held.{held_to}
use Rattle.edge_io.proofs.writer.Writer.hold_rising.Goals as goal

pub returns-clause-wrote : goal.returns-clause-wrote
returns-clause-wrote g c =
    let self = c.args.self.now in
    held_to _ self.at self.end c.place_in-self.result self.buffer c.place_in-self.new.buffer
    (labelled_text c.args.number.now) _ self.within self.room c.place_in-self.ensures.end
    c.place_in-self.ensures.text
