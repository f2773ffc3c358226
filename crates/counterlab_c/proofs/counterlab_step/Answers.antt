use Rattle.counterlab_c.proofs.Given.{gives_step}
use Rattle.counterlab_c.proofs.counterlab_step.Goals as goal

pub returns-clause-gives : goal.returns-clause-gives
returns-clause-gives c =
    gives_step _ _ _ _ _ c.step.ensures.exact c.step.ensures.unchanged c.answer_of.ensures
