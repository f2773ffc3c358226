use Rattle.node_calls.proofs.Members as law
use Rattle.node_calls.proofs.laws.any_members_are_heard.Goals as goal

pub returns : goal.returns
returns c = law.any_members_are_heard
