use Rattle.std.proofs.Common.{rules}
use Rattle.edge_io.proofs.Writing.{writes_all}
use Rattle.run_checker.proofs.Recording.{on_err, ended_well}
use Rattle.run_checker.proofs.RecordTexts.{record_is}
use Rattle.run_checker.proofs.records.write_run.Goals as goal

pub returns-clause-text : goal.returns-clause-text
returns-clause-text g c =
    let text = record_is c.args.plan.now c.args.runner.now.script c.requires.plays.script
    (rw c.requires.plan at c.requires.plays.shape) in
    rw text
    (writes_all c.new-writer.ensures c.put_record.ensures.text c.finish.ensures (search rules))

pub returns-clause-played : goal.returns-clause-played
returns-clause-played g c = ended_well _ c.finish.ensures c.put_record.ensures.played

pub returns-clause-stopped : goal.returns-clause-stopped
returns-clause-stopped g c = on_err _ _ c.put_record.ensures.stopped
