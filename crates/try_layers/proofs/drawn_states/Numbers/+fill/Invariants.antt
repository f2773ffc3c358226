use Rattle.try_layers.proofs.drawn_states.Numbers.+fill.Given as goal

abbrev pub decreases-fill : goal.decreases-fill
decreases-fill g l = l.group.now.faults
