use Rattle.round_runner.proofs.Playing.{advances_as}
use Rattle.round_runner.proofs.positions.RunnerPlay.round.Goals as goal

pub returns : goal.returns
returns g c = advances_as g.O.Overlay.layer g.O.Overlay.kept _ _ c.round.ensures.advances
