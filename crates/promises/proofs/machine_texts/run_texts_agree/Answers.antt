use Rattle.promises.proofs.machine_texts.run_texts_agree.Goals as goal
use Rattle.promises.proofs.Texts as law

pub returns-clause-rows : goal.returns-clause-rows
returns-clause-rows c = law.run_texts_agree

pub returns-clause-holds : goal.returns-clause-holds
returns-clause-holds c = law.hold_texts_agree
