use Rattle.run_checker.proofs.TrueRows as rows
use Rattle.run_checker.proofs.certificate_laws.true_rows_count.Goals as goal

pub returns : goal.returns
returns c = rows.true_rows_count c.every_plan_settles.ensures
