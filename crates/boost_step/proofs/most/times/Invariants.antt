use Rattle.std.proofs.Common.{◌≡◌, ◌≤◌, map, take}
use Rattle.boost_step.specs.Leads.{times_of}
use Rattle.boost_step.proofs.most.times.Given as goal

abbrev pub invariant-loop-number : goal.invariant-loop-number
invariant-loop-number g l = record {
  counted : l.times ≡ times_of
      (take l.number-index (map (g.R.Reading.read l.reading) l.numbers)) l.wanted;
  few : l.times ≤ l.number-index;
}
