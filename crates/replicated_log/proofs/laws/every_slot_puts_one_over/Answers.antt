use Rattle.replicated_log.proofs.SlotEntries as law
use Rattle.replicated_log.proofs.laws.every_slot_puts_one_over.Goals as goal

pub returns : goal.returns
returns c end counter = law.every_slot_puts_one_over _ _
