use Rattle.std.proofs.Common.{ℕ, ◌<◌, Option, IfSome, subst, sym}
use Rattle.std.proofs.lemmas.List.Elements.{All-map}
use Rattle.sync_types.specs.States.{State, register_at}
use Rattle.counting.proofs.Least.{least_above_in}
use Rattle.counter_core.specs.HeardRegisters.{values_heard}
use Rattle.counter_core.proofs.heard_registers.HeardRegister.count_for.Goals as goal

pub returns-in-1-clause-below : goal.returns-in-1-clause-below
returns-in-1-clause-below c = λ most all.
    let h = c.args.self.now in
    let value : State → Option ℕ = λ s. (register_at h.register s).a in
    record {
      least = subst (λ o. IfSome o (λ a. a < most)) (sym c.least.ensures.least)
          (least_above_in most h.faults (values_heard h)
          (All-map (λ o. IfSome o (λ a. a < most)) value h.states all));
      king = tt;
    }
