use Rattle.halving_plan.proofs.Settles as settles
use Rattle.halving_plan.proofs.level_laws.one_half_is_sound.Goals as goal

pub returns : goal.returns
returns c = settles.one_half_is_sound
