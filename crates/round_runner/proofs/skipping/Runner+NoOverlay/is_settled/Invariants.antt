use Rattle.round_runner.proofs.skipping.Runner+NoOverlay.is_settled.Given as goal

abbrev pub ghosts-gather : goal.ghosts-gather
ghosts-gather a = record { name = a.blank.name; parts = a.blank.parts }
