use Rattle.texts.specs.Lines.{lines_of}
use Rattle.plan_finder.specs.declared.want_lines.FindStage.TheVariants.{Unread}
use Rattle.plan_finder.proofs.FitWants.{part_fits}
use Rattle.plan_finder.proofs.reading.read_find.Goals as goal

pub returns-in-None-clause-fits : goal.returns-in-None-clause-fits
returns-in-None-clause-fits c =
    part_fits Unread 0 1 (lines_of c.args.bytes.now) _ tt
    (rw c.new.ensures at c.in_ok-read.ensures.exact)
