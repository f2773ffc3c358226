use Rattle.halving_texts.proofs.ReadTables.{tables_are_read, only_tables_are_read}
use Rattle.halving_texts.proofs.table_laws.tables_read_back.Goals as goal

pub returns-clause-read : goal.returns-clause-read
returns-clause-read c = tables_are_read

pub returns-clause-only : goal.returns-clause-only
returns-clause-only c = only_tables_are_read
