use Rattle.std.proofs.Common.{◌≤◌, ℕ, sym, subst}
use Rattle.run_explanations.proofs.Taking.{begin_is, begin_within}
use Rattle.run_explanations.proofs.explaining.last_begin.Goals as goal

pub returns-clause-value : goal.returns-clause-value
returns-clause-value c = begin_is _ c.args.script.now _ c.era_start.ensures c.eras.ensures.value

pub returns-clause-within : goal.returns-clause-within
returns-clause-within c =
    subst (λ (from : ℕ). from ≤ c.args.script.now.rounds) (sym (returns-clause-value c))
    (begin_within c.args.script.now c.rounds-rounds.ensures.script)
