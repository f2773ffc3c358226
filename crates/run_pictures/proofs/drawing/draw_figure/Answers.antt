use Rattle.std.proofs.Common.{rules}
use Rattle.edge_io.proofs.Writing.{writes_all}
use Rattle.run_pictures.proofs.drawing.draw_figure.Goals as goal

pub returns-in-Ok : goal.returns-in-Ok
returns-in-Ok g c = record {
  figure = c.args.figure.now;
  is = c.in_ok-same.ensures c.if-not-same.false;
  laid = c.is_laid.ensures c.if-not-is_laid.false;
  drawn = writes_all c.new-writer.ensures c.put_formed.ensures c.in-Ok.ensures (search rules);
}

pub returns-in-Err : goal.returns-in-Err
returns-in-Err g c = record {
  figure = c.args.figure.now;
  is = c.in_ok-same.ensures c.if-not-same.false;
  laid = c.is_laid.ensures c.if-not-is_laid.false;
  drawn = writes_all c.new-writer.ensures c.put_formed.ensures c.in-Err.ensures (search rules);
}
