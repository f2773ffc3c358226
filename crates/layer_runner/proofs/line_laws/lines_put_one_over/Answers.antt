use Rattle.layer_runner.proofs.line_laws.lines_put_one_over.Goals as goal
use Rattle.layer_runner.proofs.LinePromises as law

pub returns : goal.returns
returns c end counter = law.lines_put_one_over _ _
