use Rattle.states.proofs.TurnedBoth.{each_is_turned}
use Rattle.states.proofs.laws.lines_are_turned.Goals as goal

pub returns : goal.returns
returns c = each_is_turned
