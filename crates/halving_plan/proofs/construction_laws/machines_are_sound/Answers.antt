use Rattle.halving_plan.proofs.TreeSound as sound
use Rattle.halving_plan.proofs.construction_laws.machines_are_sound.Goals as goal

pub returns : goal.returns
returns c = sound.machines_are_sound
