use Rattle.slot_table.proofs.laws.hold_words.Goals as goal
use Rattle.slot_table.proofs.HoldWords as law

pub returns-clause-exact : goal.returns-clause-exact
returns-clause-exact c = law.words_are_exact

pub returns-clause-one : goal.returns-clause-one
returns-clause-one c = law.one_holds
