use Rattle.halving_texts.proofs.table_writing.+put_groups.Given as goal

abbrev pub decreases-put_groups : goal.decreases-put_groups
decreases-put_groups g l = l.group.now.faults
