use Rattle.promises.proofs.run_laws.nodes_make_columns.Goals as goal
use Rattle.promises.proofs.Columns as law

pub returns : goal.returns
returns c = law.nodes_make_columns
