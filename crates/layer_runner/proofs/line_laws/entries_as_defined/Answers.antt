use Rattle.layer_runner.proofs.line_laws.entries_as_defined.Goals as goal
use Rattle.layer_runner.proofs.EntryLaws as law

pub returns : goal.returns
returns c = law.entries_as_defined
