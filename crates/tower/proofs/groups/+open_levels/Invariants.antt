use Rattle.tower.proofs.groups.+open_levels.Given as goal

abbrev pub decreases-open_levels : goal.decreases-open_levels
decreases-open_levels l = l.levels
