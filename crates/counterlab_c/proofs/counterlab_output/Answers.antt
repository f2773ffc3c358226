use Rattle.counterlab_c.proofs.Given.{gives_number}
use Rattle.counterlab_c.proofs.counterlab_output.Goals as goal

pub returns : goal.returns
returns c = gives_number _ _ _ c.output.ensures c.answer_of.ensures
