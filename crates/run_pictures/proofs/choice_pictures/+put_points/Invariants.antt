use Rattle.std.proofs.Common.{length}
use Rattle.run_pictures.proofs.choice_pictures.+put_points.Given as goal

abbrev pub decreases-put_points : goal.decreases-put_points
decreases-put_points g l = length l.points.now
