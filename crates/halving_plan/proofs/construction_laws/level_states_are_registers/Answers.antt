use Rattle.halving_plan.proofs.RunLaws as laws
use Rattle.halving_plan.proofs.construction_laws.level_states_are_registers.Goals as goal

pub returns : goal.returns
returns c = laws.level_states_are_registers
