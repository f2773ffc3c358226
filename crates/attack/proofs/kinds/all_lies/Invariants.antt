use Rattle.std.proofs.Common.{◌≡◌, take}
use Rattle.attack.specs.Kinds.{all_lies}
use Rattle.attack.proofs.kinds.all_lies.Given as goal

abbrev pub invariant-loop-id : goal.invariant-loop-id
invariant-loop-id l =
    l.lies.items
    ≡ all_lies l.kind l.fn.lot.seed l.scope.nodes l.scope.faults l.scope.rounds
    (take l.id-index l.faulty)
