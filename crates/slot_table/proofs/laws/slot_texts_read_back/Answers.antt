use Rattle.slot_table.proofs.SlotTexts.{table_text_is_read, slot_text_is_read}
use Rattle.slot_table.proofs.laws.slot_texts_read_back.Goals as goal

pub returns-clause-any : goal.returns-clause-any
returns-clause-any c = table_text_is_read

pub returns-clause-plan : goal.returns-clause-plan
returns-clause-plan c = slot_text_is_read
