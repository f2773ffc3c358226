use Rattle.read_texts.proofs.TakenRequests.{taken_requests}
use Rattle.read_texts.proofs.laws.read_requests_have_texts.Goals as goal

pub returns : goal.returns
returns c = taken_requests
