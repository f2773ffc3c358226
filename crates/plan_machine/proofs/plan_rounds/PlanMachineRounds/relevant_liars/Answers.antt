use Rattle.std.proofs.Common.{length, ap, arith}
use Rattle.shared_board.specs.Sharing.{Shares}
use Rattle.plan_machine.proofs.PlanRounds.{depends}
use Rattle.plan_machine.proofs.plan_rounds.PlanMachineRounds.relevant_liars.Goals as goal

pub returns-clause-enough : goal.returns-clause-enough
returns-clause-enough c =
    let same = ap (λ (s : Shares). length s.faulty) c.requires.stands.is in
    let high = c.relevant_liars.ensures.range.1 in
    depends c.args.self.now _ c.args.shared.now c.requires.stands c.args.v
    c.relevant_liars.result.0 c.relevant_liars.result.1 (omega (arith, high, same))
    (rw c.self.view_is at c.relevant_liars.ensures.enough)
