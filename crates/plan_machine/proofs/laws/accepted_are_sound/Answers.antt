use Rattle.plan_machine.proofs.Sound as laws
use Rattle.plan_machine.proofs.laws.accepted_are_sound.Goals as goal

pub returns : goal.returns
returns c = laws.accepted_are_sound
