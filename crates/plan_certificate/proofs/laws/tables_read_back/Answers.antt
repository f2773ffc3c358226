use Rattle.plan_certificate.proofs.WrittenTables.{tables_are_read}
use Rattle.plan_certificate.proofs.ReadTables.{only_tables}
use Rattle.plan_certificate.proofs.laws.tables_read_back.Goals as goal

pub returns : goal.returns
returns c = record { read = tables_are_read; only = only_tables }
