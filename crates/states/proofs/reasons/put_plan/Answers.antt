use Rattle.states.proofs.reasons.put_plan.Goals as goal

pub returns : goal.returns
returns g c = rw (← c.premise_name-name.ensures) c.put_pieces.ensures
