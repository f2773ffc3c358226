use Rattle.std.proofs.Common.{length}
use Rattle.run_pictures.proofs.laid.+are_next.Given as goal

abbrev pub decreases-are_next : goal.decreases-are_next
decreases-are_next l = length l.ends.now
