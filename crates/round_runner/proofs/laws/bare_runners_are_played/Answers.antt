use Rattle.round_runner.proofs.Playing as laws
use Rattle.round_runner.proofs.laws.bare_runners_are_played.Goals as goal

pub returns : goal.returns
returns c = laws.bare_is_played
