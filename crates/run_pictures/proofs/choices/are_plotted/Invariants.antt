use Rattle.std.proofs.Common.{◌≡◌, None, take}
use Rattle.run_pictures.specs.Choices.{IsPlotted}
use Rattle.run_pictures.specs.Sweeps.{AreChained, last_or}
use Rattle.run_pictures.proofs.choices.are_plotted.Given as goal

abbrev pub invariant-loop-k : goal.invariant-loop-k
invariant-loop-k l = record {
  last : l.last ≡ last_or None (take l.k l.points);
  plotted : AreChained IsPlotted None (take l.k l.points);
}
