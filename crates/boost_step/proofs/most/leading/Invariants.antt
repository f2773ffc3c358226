use Rattle.std.proofs.Common.{map, take, ◌≤◌}
use Rattle.boost_step.specs.Leads.{Leads}
use Rattle.boost_step.proofs.most.leading.Given as goal

abbrev pub invariant-loop-number : goal.invariant-loop-number
invariant-loop-number g l = record {
  leads : Leads (take l.number-index (map (g.R.Reading.read l.reading) l.numbers)) l.leading.number
      l.leading.lead;
  few : l.leading.lead ≤ l.number-index;
}
