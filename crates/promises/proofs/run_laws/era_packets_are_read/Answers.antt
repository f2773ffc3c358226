use Rattle.promises.proofs.Columns.{packets_are_read}
use Rattle.promises.proofs.run_laws.era_packets_are_read.Goals as goal

pub returns : goal.returns
returns c = packets_are_read c.packets_read_back.ensures
