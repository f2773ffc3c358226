use Rattle.state_codec.proofs.Further as laws
use Rattle.state_codec.proofs.laws.further_registers_are_every_nodes.Goals as goal

pub returns : goal.returns
returns c = laws.fields_with_further
