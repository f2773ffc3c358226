use Rattle.std.proofs.Common.{◌≡◌, ◌≤◌, take}
use Rattle.attack.specs.Changes.{place_of}
use Rattle.attack.proofs.changes.place_of.Given as goal

abbrev pub invariant-loop-start : goal.invariant-loop-start
invariant-loop-start l = record {
  counted : l.place ≡ place_of l.node (take l.start-index l.starts);
  within : l.place ≤ l.start-index;
}
