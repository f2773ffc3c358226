use Rattle.promises.proofs.run_laws.lines_decide.Goals as goal
use Rattle.promises.proofs.Lines as law

pub returns : goal.returns
returns c = law.lines_decide
