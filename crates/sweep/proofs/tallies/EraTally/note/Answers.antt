use Rattle.sweep.proofs.More.{noted_run, same_first, same_size}
use Rattle.sweep.proofs.tallies.EraTally.note.Goals as goal

pub returns-clause-runs : goal.returns-clause-runs
returns-clause-runs c =
    noted_run c.args.self.now c.add.new.self c.args.locked c.args.seed c.add.ensures c.requires

pub returns-clause-first : goal.returns-clause-first
returns-clause-first c =
    same_first c.args.self.now c.add.new.self c.args.locked c.args.seed c.add.ensures

pub returns-clause-size : goal.returns-clause-size
returns-clause-size c =
    same_size c.args.self.now c.add.new.self c.args.locked c.args.seed c.add.ensures
