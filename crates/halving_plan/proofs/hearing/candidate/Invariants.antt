use Rattle.std.proofs.Common.{count_by, nat_eq, take, drop}
use Rattle.halving_plan.specs.GroupHearing.{shown_by}
use Rattle.halving_plan.proofs.Lead.{IsLead}
use Rattle.halving_plan.proofs.hearing.candidate.Given as goal

abbrev pub invariant-loop-i : goal.invariant-loop-i
invariant-loop-i l =
    IsLead (λ z. count_by (λ s. nat_eq z (shown_by l.half s)) (take l.i (drop l.half.first l.heard)))
    l.i l.number l.lead
