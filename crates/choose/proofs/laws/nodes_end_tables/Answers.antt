use Rattle.choose.proofs.Limits.{nodes_end_tables}
use Rattle.choose.proofs.laws.nodes_end_tables.Goals as goal

pub returns : goal.returns
returns c = nodes_end_tables
