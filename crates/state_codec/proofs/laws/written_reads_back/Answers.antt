use Rattle.state_codec.proofs.Back as laws
use Rattle.state_codec.proofs.laws.written_reads_back.Goals as goal

pub returns : goal.returns
returns c = laws.written_reads_back
