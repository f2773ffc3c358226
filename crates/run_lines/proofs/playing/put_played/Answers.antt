use Rattle.round_runner.specs.Runners.{position_of}
use Rattle.round_runner.proofs.Playing.{as_play}
use Rattle.layer_laws.proofs.Playing.{begun_of}
use Rattle.run_lines.proofs.playing.put_played.Goals as goal

pub put_played-requires : goal.put_played-requires
put_played-requires g c =
    begun_of (position_of g.O.Overlay.layer g.O.Overlay.kept c.args.runner.now)
    c.facts.ensures.whole c.requires.at
    (as_play g.O.Overlay.layer g.O.Overlay.kept _ c.args.runner.now c.requires.plays)
