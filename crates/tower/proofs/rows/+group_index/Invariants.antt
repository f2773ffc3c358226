use Rattle.std.proofs.Common.{length}
use Rattle.tower.proofs.rows.+group_index.Given as goal

abbrev pub decreases-group_index : goal.decreases-group_index
decreases-group_index l = length l.levels.now
