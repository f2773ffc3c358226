use Rattle.std.proofs.Common.{◌≡◌, None, take}
use Rattle.run_pictures.specs.Sweeps.{AreChained, IsPlaced, last_or}
use Rattle.run_pictures.proofs.sweep_laid.are_placed.Given as goal

abbrev pub invariant-loop-k : goal.invariant-loop-k
invariant-loop-k l = record {
  last : l.last ≡ last_or None (take l.k l.tallies);
  placed : AreChained (IsPlaced l.sweep) None (take l.k l.tallies);
}
