use Rattle.choose.proofs.Texts.{texts_are_plans}
use Rattle.choose.proofs.laws.texts_are_plans.Goals as goal

pub returns : goal.returns
returns c = texts_are_plans
