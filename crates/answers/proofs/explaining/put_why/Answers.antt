use Rattle.std.proofs.Common.{[], ◌∙◌, sym, arith}
use Rattle.edge_io.proofs.Writing.{writes_is}
use Rattle.answers.proofs.Explained.{base_is, why_is, explained_plays, skipped_plays}
use Rattle.answers.proofs.explaining.put_why.Goals as goal

pub returns-then-depth-eq0-clause-lines : goal.returns-then-depth-eq0-clause-lines
returns-then-depth-eq0-clause-lines g c =
    writes_is (base_is c.args.plan.now _ (sym c.depth.ensures.value ∙ c.if-depth-eq0.true))
    c.text.ensures

pub returns-then-depth-eq0-clause-played : goal.returns-then-depth-eq0-clause-played
returns-then-depth-eq0-clause-played g c =
    skipped_plays _ _ c.play_until_known.ensures.skipped
    (c.play_until_known.ensures.played [] c.requires.start.plays)

pub first_explanation-requires-clause-level : goal.first_explanation-requires-clause-level
first_explanation-requires-clause-level g c = omega (arith, c.depth.ensures.value, c.if-depth-eq0.false)

pub first_explanation-requires-clause-start : goal.first_explanation-requires-clause-start
first_explanation-requires-clause-start g c = record {
  plan_is = c.requires.plan;
  at = c.requires.start.at;
  plays = c.requires.start.plays;
}

pub returns-clause-lines : goal.returns-clause-lines
returns-clause-lines g c =
    writes_is (why_is c.args.plan.now _ c.first_explanation.result
    (λ none. c.if-depth-eq0.false (c.depth.ensures.value ∙ none)) c.first_explanation.ensures.value)
    c.put_explanation.ensures

pub returns-clause-played : goal.returns-clause-played
returns-clause-played g c = explained_plays _ _ c.first_explanation.ensures.played
