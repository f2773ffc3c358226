use Rattle.std.proofs.Common.{length}
use Rattle.trace.proofs.level_lines.+put_levels.Given as goal

abbrev pub decreases-put_levels : goal.decreases-put_levels
decreases-put_levels g l = length l.group.now.levels.now
