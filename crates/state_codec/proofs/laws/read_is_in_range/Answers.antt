use Rattle.state_codec.proofs.Ranged as laws
use Rattle.state_codec.proofs.laws.read_is_in_range.Goals as goal

pub returns : goal.returns
returns c = laws.read_is_in_range
