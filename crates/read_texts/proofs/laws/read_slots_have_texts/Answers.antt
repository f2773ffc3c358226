use Rattle.read_texts.proofs.TakenTables.{taken_tables}
use Rattle.read_texts.proofs.laws.read_slots_have_texts.Goals as goal

pub returns : goal.returns
returns c = taken_tables
