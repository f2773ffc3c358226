use Rattle.std.proofs.Common.{refl, sym, subst}
use Rattle.run_explanations.specs.Explanations.{IsFirstOrNone}
use Rattle.run_explanations.proofs.Taking.{read_begin, value_is}
use Rattle.run_explanations.proofs.explaining.first_explanation.Goals as goal

pub first_found-requires : goal.first_found-requires
first_found-requires c =
    read_begin c.args.plan.now _ c.args.runner.now c.requires.start c.requires.level
    c.top_of.result.small c.top_of.ensures

pub returns-clause-value : goal.returns-clause-value
returns-clause-value c =
    value_is c.args.plan.now c.top_of.result.numbers _ c.args.runner.now c.first_found.result
    c.requires.start.plan_is c.top_of.ensures refl c.first_found.ensures.found

pub returns-clause-first : goal.returns-clause-first
returns-clause-first c =
    subst (IsFirstOrNone c.args.plan.now c.args.runner.now.script) (sym (returns-clause-value c))
    (c.found_is_first.ensures c.args.plan.now c.args.runner.now.script c.facts.ensures.accepted
    c.requires.level)
