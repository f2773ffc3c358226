use Rattle.replicated_log.proofs.laws.every_slot_puts_one.Goals as goal
use Rattle.replicated_log.proofs.SlotEntries as law

pub returns : goal.returns
returns c = law.every_slot_puts_one
