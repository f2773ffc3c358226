use Rattle.node_calls.proofs.FirstLines as law
use Rattle.node_calls.proofs.laws.texts_have_counters.Goals as goal

pub returns : goal.returns
returns c = law.texts_have_counters
