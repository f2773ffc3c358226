use Rattle.edge_io.proofs.HeldLines.{buffer_passed, buffer_read, held_few}
use Rattle.edge_io.proofs.feed.Feed.pass.Goals as goal

pub returns-clause-passed : goal.returns-clause-passed
returns-clause-passed g c =
    let self = c.args.self.now in
    buffer_read self.buffer (g.S.Source.left self.source.now) self.at self.end c.args.count
    (held_few self.buffer self.at self.end c.args.count c.requires)

pub returns-clause-held : goal.returns-clause-held
returns-clause-held g c =
    let self = c.args.self.now in
    buffer_passed self.buffer self.at self.end c.args.count
    (held_few self.buffer self.at self.end c.args.count c.requires)
