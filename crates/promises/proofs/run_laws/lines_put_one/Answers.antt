use Rattle.promises.proofs.run_laws.lines_put_one.Goals as goal
use Rattle.promises.proofs.Lines as law

pub returns : goal.returns
returns c = law.lines_put_one
