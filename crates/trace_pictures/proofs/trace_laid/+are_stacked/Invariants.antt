use Rattle.std.proofs.Common.{length}
use Rattle.trace_pictures.proofs.trace_laid.+are_stacked.Given as goal

abbrev pub decreases-are_stacked : goal.decreases-are_stacked
decreases-are_stacked l = length l.levels.now
