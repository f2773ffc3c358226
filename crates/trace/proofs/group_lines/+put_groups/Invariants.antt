use Rattle.trace.proofs.group_lines.+put_groups.Given as goal

abbrev pub decreases-put_groups : goal.decreases-put_groups
decreases-put_groups g l = l.group.now.faults
