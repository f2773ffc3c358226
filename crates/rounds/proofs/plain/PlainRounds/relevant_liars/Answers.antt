use Rattle.std.proofs.Common.{ap, arith}
use Rattle.rounds.proofs.Hearing.{all_alike}
use Rattle.rounds.proofs.plain.PlainRounds.relevant_liars.Goals as goal

pub returns-clause-enough : goal.returns-clause-enough
returns-clause-enough g c = λ heard told one other same.
    ap ((g.M.Machine.machine c.args.self.now).step c.args._v)
    (all_alike c.args.faulty.now.ids c.requires.stands.rising c.args._v c.args._states.now.current
    heard told one other (λ j lt. same j (omega arith) (omega (arith, lt, c.len.ensures.exact))))
