use Rattle.std.proofs.Common.{◌≡◌, take, drop}
use Rattle.plan_finder.specs.Best.{levels_by}
use Rattle.plan_finder.specs.Building.{plan_with, modulus_under}
use Rattle.plan_finder.proofs.building.plan_of.Given as goal

abbrev pub invariant-loop-i : goal.invariant-loop-i
invariant-loop-i l =
    l.plan ≡ plan_with (modulus_under l.c (drop l.i l.steps)) (levels_by (take l.i l.steps))
