use Rattle.node_words.proofs.AcceptedHeaders.{are_of_plans}
use Rattle.node_words.proofs.laws.headers_are_of_plans.Goals as goal

pub returns : goal.returns
returns c = are_of_plans
