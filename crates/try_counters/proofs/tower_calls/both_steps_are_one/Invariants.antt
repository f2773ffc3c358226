use Rattle.try_counters.proofs.tower_calls.both_steps_are_one.Given as goal

abbrev pub ghosts-shared_step : goal.ghosts-shared_step
ghosts-shared_step g a = record { name = a.blank.name; parts = a.blank.parts }
