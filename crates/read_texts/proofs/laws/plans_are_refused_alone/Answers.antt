use Rattle.read_texts.proofs.TakenPlans.{refused_alone}
use Rattle.read_texts.proofs.laws.plans_are_refused_alone.Goals as goal

pub returns : goal.returns
returns c = refused_alone
