use Rattle.slot_table.proofs.laws.lines_fit.Goals as goal
use Rattle.slot_table.proofs.FitLines as law

pub returns-clause-any : goal.returns-clause-any
returns-clause-any c = law.tables_fit

pub returns-clause-plan : goal.returns-clause-plan
returns-clause-plan c = law.lines_fit
