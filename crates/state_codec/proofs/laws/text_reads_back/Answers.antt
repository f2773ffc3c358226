use Rattle.state_codec.proofs.Digits as laws
use Rattle.state_codec.proofs.laws.text_reads_back.Goals as goal

pub returns : goal.returns
returns c = record { taken = laws.text_is_taken; back = laws.text_reads_back }
