use Rattle.std.proofs.Common.{ℕ, ◌-◌, subst, arith}
use Rattle.boost_step.specs.Leads.{Leads}
use Rattle.boost_step.proofs.Leads.{takes_over, rises, falls}
use Rattle.boost_step.proofs.most.follow.Goals as goal

pub returns-then-leading-eq0-clause-leads : goal.returns-then-leading-eq0-clause-leads
returns-then-leading-eq0-clause-leads c = λ numbers leads.
    takes_over numbers c.args.leading.number c.args.number
    (subst (λ (k : ℕ). Leads numbers c.args.leading.number k) c.if-leading-eq0.true leads)

pub returns-then-leading-number-clause-leads : goal.returns-then-leading-number-clause-leads
returns-then-leading-number-clause-leads c = λ numbers leads.
    rises numbers c.args.leading.number c.args.leading.lead c.args.number c.if-leading-number.true
    leads

pub returns-else-leading-number-clause-leads : goal.returns-else-leading-number-clause-leads
returns-else-leading-number-clause-leads c = λ numbers leads.
    falls numbers c.args.leading.number (c.args.leading.lead - 1) c.args.number
    c.if-leading-number.false
    (subst (λ (k : ℕ). Leads numbers c.args.leading.number k)
    (omega (arith, c.if-leading-eq0.false)) leads)
