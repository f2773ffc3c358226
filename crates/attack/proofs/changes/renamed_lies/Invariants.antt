use Rattle.std.proofs.Common.{◌≡◌, map, take}
use Rattle.attack.specs.Changes.{renamed}
use Rattle.attack.proofs.changes.renamed_lies.Given as goal

abbrev pub invariant-loop-lie : goal.invariant-loop-lie
invariant-loop-lie l = l.told.items ≡ map (renamed l.old l.new) (take l.lie-index l.lies)
