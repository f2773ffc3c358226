use Rattle.promises.proofs.RecordLaws as laws
use Rattle.promises.proofs.certificate_laws.records_are_checked.Goals as goal

pub returns : goal.returns
returns c = laws.records_are_checked c.check_is_exact.ensures c.records_are_true.ensures
    c.records_are_of_runs.ensures
