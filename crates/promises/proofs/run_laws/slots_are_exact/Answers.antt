use Rattle.promises.proofs.CountedSlots as law
use Rattle.promises.proofs.run_laws.slots_are_exact.Goals as goal

pub returns : goal.returns
returns c end = law.slots_are_exact
