use Rattle.std.proofs.Common.{ℕ, ◌∙◌, [], ap, subst, arith}
use Rattle.adversary_script.specs.Scripts.{Script}
use Rattle.run_explanations.specs.Playing.{HasPlayed}
use Rattle.run_explanations.proofs.Taking.{played_on}
use Rattle.run_explanations.proofs.explaining.explain.Goals as goal

pub skip_to-requires-clause-from : goal.skip_to-requires-clause-from
skip_to-requires-clause-from c =
    let first = c.first_explanation-found.ensures in
    let same = ap (λ (s : Script). s.rounds) first.played.script in
    let lent = ap (λ (s : Script). s.rounds) c.script.ensures in
    omega (arith, first.within, same, lent, c.rounds-rounds.ensures.value)

pub skip_to-requires-clause-within : goal.skip_to-requires-clause-within
skip_to-requires-clause-within c =
    let lent = ap (λ (s : Script). s.rounds) c.script.ensures in
    omega (arith, lent, c.rounds-rounds.ensures.value)

pub returns-clause-played : goal.returns-clause-played
returns-clause-played c =
    let first = c.first_explanation-found.ensures.played in
    let same = ap (λ (s : Script). s.rounds) first.script in
    let lent = ap (λ (s : Script). s.rounds) c.script.ensures in
    subst (λ (t : ℕ). HasPlayed c.args.runner.now t c.skip_to.new.self)
    (c.rounds-rounds.ensures.value ∙ (lent ∙ same))
    (played_on c.args.runner.now _ _ _ _ first c.skip_to.ensures.skipped
    (c.skip_to.ensures.played [] first.plays))
