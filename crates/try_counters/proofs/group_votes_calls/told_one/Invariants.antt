use Rattle.try_counters.proofs.group_votes_calls.told_one.Given as goal

abbrev pub ghosts-heard : goal.ghosts-heard
ghosts-heard a = record { name = a.blank.name; parts = a.blank.parts }
