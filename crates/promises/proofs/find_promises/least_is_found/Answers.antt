use Rattle.promises.proofs.FindPromises.{least_found}
use Rattle.promises.proofs.find_promises.least_is_found.Goals as goal

pub returns : goal.returns
returns c = least_found c.finds_least.ensures c.potentials_bound.ensures
