use Rattle.std.proofs.Common.{length}
use Rattle.trace_pictures.proofs.trace_laid.+are_distinct.Given as goal

abbrev pub decreases-are_distinct : goal.decreases-are_distinct
decreases-are_distinct l = length l.levels.now
