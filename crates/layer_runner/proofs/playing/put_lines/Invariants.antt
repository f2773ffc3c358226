use Rattle.std.proofs.Common.{◌≡◌}
use Rattle.layer_runner.specs.PlayedTexts.{numbered}
use Rattle.layer_runner.proofs.Played.{LinesSoFar}
use Rattle.layer_runner.proofs.playing.put_lines.Given as goal

abbrev pub invariant-loop : goal.invariant-loop
invariant-loop g l = record {
  so_far : LinesSoFar g.K.Sink.told (g.L.Lines.wording l.lines) (g.P.Play.position l.fn.play)
      l.counter (g.P.Play.position l.play) l.fn.writer l.writer;
  number : l.number ≡ numbered (g.L.Lines.wording l.lines).label l.counter;
}
