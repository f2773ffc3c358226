use Rattle.slot_table.proofs.laws.at_most_one_holds.Goals as goal
use Rattle.slot_table.proofs.Holders as law

pub returns : goal.returns
returns c = law.at_most_one_holds
