use Rattle.plan_machine.proofs.PlanRounds.{stands_so, tells, told}
use Rattle.plan_machine.proofs.plan_rounds.PlanMachineRounds.advance_shared.Goals as goal

pub advance_shared-requires-clause-stands : goal.advance_shared-requires-clause-stands
advance_shared-requires-clause-stands g c =
    stands_so _ _ _ (rw (← c.self.view_is) at c.requires.stands)

pub advance_shared-requires-clause-tells : goal.advance_shared-requires-clause-tells
advance_shared-requires-clause-tells g c =
    tells c.args.self.now _ c.args.shared.now c.requires.stands c.args.v c.args.lies.now
    c.requires.lies.size c.requires.lies.own

pub advance_shared-requires-clause-told : goal.advance_shared-requires-clause-told
advance_shared-requires-clause-told g c =
    told _ _ _ (rw (← c.self.view_is) at c.requires.stands) _ c.self.invariant _ _
    (rw (← c.self.view_is) at c.requires.lies)
