use Rattle.std.proofs.Common.{length}
use Rattle.run_pictures.proofs.choice_pictures.+decades_of.Given as goal

abbrev pub decreases-decades_of : goal.decreases-decades_of
decreases-decades_of l = length l.points.now
