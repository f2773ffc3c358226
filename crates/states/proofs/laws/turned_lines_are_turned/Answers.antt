use Rattle.states.proofs.TurnedAgain.{each_is_turned_again}
use Rattle.states.proofs.laws.turned_lines_are_turned.Goals as goal

pub returns : goal.returns
returns c = each_is_turned_again
