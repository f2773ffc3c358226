use Rattle.std.proofs.Common.{◌≤◌, length}
use Rattle.adversary_script.specs.Links.{IsLinkedFrom}
use Rattle.adversary_script.proofs.links.link.Given as goal

abbrev pub invariant-loop-i : goal.invariant-loop-i
invariant-loop-i l = record {
  most : l.i ≤ length l.lies;
  linked : IsLinkedFrom l.i l.nodes l.lies l.firsts.items l.nexts.items;
}

abbrev pub decreases-loop-i : goal.decreases-loop-i
decreases-loop-i l = l.i
