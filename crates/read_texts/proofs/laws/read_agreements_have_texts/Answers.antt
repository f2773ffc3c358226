use Rattle.read_texts.proofs.TakenAgreements.{taken_agreements}
use Rattle.read_texts.proofs.laws.read_agreements_have_texts.Goals as goal

pub returns : goal.returns
returns c = taken_agreements
