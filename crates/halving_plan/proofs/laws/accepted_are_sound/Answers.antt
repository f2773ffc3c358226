use Rattle.halving_plan.proofs.Sound as sound
use Rattle.halving_plan.proofs.laws.accepted_are_sound.Goals as goal

pub returns : goal.returns
returns c = sound.accepted_are_sound
