use Rattle.layer_runner.proofs.line_laws.lines_fire_together_over.Goals as goal
use Rattle.layer_runner.proofs.LinePromises as law

pub returns : goal.returns
returns c end counter = law.lines_fire_together_over _ _
