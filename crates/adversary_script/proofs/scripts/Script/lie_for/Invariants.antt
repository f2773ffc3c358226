use Rattle.std.proofs.Common.{◌-◌, length}
use Rattle.adversary_script.proofs.Linked.{IsAt}
use Rattle.adversary_script.proofs.scripts.Script.lie_for.Given as goal

abbrev pub invariant-loop-at : goal.invariant-loop-at
invariant-loop-at l = IsAt l.self.groups l.t l.u l.v l.self.lies l.at

abbrev pub decreases-loop-at : goal.decreases-loop-at
decreases-loop-at l = length l.self.lies - l.at
