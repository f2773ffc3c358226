use Rattle.workbench.proofs.calling.counterlab.Goals as goal

pub returns-clause-prints : goal.returns-clause-prints
returns-clause-prints g c = c.promises_are_printed.ensures _ _ _ _ _ _ _ _ c.answer.ensures.does
