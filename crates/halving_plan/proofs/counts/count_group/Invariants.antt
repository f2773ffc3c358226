use Rattle.std.proofs.Common.{◌≡◌, ◌+◌, ◌≤◌, count_by, nat_eq, unwrap_or, take, drop}
use Rattle.std.specs.Option.{option_eq}
use Rattle.sync_types.specs.States.{register_at}
use Rattle.halving_plan.proofs.counts.count_group.Given as goal

abbrev pub invariant-loop-i : goal.invariant-loop-i
invariant-loop-i l = record {
  saw : l.saw
      ≡ count_by (λ s. nat_eq l.own.seen (unwrap_or (register_at (l.group.register + 1) s).a 0))
      (take l.i (drop l.group.first l.heard));
  same : l.same
      ≡ count_by (λ s. option_eq nat_eq l.own.register.a (register_at l.group.register s).a)
      (take l.i (drop l.group.first l.heard));
  few_saw : l.saw ≤ l.i;
  few : l.same ≤ l.i;
}
