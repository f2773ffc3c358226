use Rattle.std.proofs.Common.{◌≡◌}
use Rattle.attack.specs.FaultyIds.{others}
use Rattle.attack.proofs.faulty_ids.others.Given as goal

abbrev pub invariant-loop-id : goal.invariant-loop-id
invariant-loop-id l = l.rest.items ≡ others l.id l.ids
