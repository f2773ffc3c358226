use Rattle.sweep.proofs.DifferentKeys as law
use Rattle.sweep.proofs.keys.keys_differ.Goals as goal

pub returns : goal.returns
returns c = law.keys_differ
