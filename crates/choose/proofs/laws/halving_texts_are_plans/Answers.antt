use Rattle.choose.proofs.HalvingPlanTexts.{texts_are_plans}
use Rattle.choose.proofs.laws.halving_texts_are_plans.Goals as goal

pub returns : goal.returns
returns c = texts_are_plans
