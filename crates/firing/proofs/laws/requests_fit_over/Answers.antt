use Rattle.firing.proofs.laws.requests_fit_over.Goals as goal
use Rattle.firing.proofs.FitRequests as law

pub returns : goal.returns
returns c = law.requests_fit_over
