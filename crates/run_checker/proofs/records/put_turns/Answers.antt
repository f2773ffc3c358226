use Rattle.std.proofs.Common.{refl, sym, ap, ◌∙◌, arith}
use Rattle.adversary_script.specs.Scripts.{Script}
use Rattle.run_checker.proofs.Recording.{turns_begin, turns_go_on, turns_fail, turns_end}
use Rattle.run_checker.proofs.Recording.{turns_stopped, turns_played}
use Rattle.std.proofs.lemmas.Bool.{true≢false}
use Rattle.run_checker.proofs.records.put_turns.Goals as goal

pub loop-init : goal.loop-init
loop-init g c = turns_begin c.args.runner.now c.requires.start c.requires.plays

pub returns-then-has_failed-clause-text : goal.returns-then-has_failed-clause-text
returns-then-has_failed-clause-text g c =
    turns_fail c.loop.invariant (sym c.has_failed.ensures ∙ c.if-has_failed.true)

pub returns-then-has_failed-clause-played : goal.returns-then-has_failed-clause-played
returns-then-has_failed-clause-played g c = λ not.
    absurd (true≢false (sym c.if-has_failed.true ∙ c.has_failed.ensures ∙ not))

pub returns-then-has_failed-clause-stopped : goal.returns-then-has_failed-clause-stopped
returns-then-has_failed-clause-stopped g c =
    turns_stopped c.loop.invariant c.args.runner.now refl refl

pub loop-preserved : goal.loop-preserved
loop-preserved g c =
    let rounds = c.rounds-rounds.ensures.value ∙ ap (λ (s : Script). s.rounds) c.script.ensures in
    turns_go_on c.loop.invariant (omega (arith, c.loop-test.true, rounds))
    c.put_turn.ensures.text c.put_turn.ensures.played

pub returns-clause-text : goal.returns-clause-text
returns-clause-text g c =
    let rounds = c.rounds-rounds.ensures.value ∙ ap (λ (s : Script). s.rounds) c.script.ensures in
    turns_end c.loop.invariant (omega (arith, c.loop-test.false, rounds))

pub returns-clause-played : goal.returns-clause-played
returns-clause-played g c = λ not.
    let rounds = c.rounds-rounds.ensures.value ∙ ap (λ (s : Script). s.rounds) c.script.ensures in
    turns_played c.loop.invariant c.args.runner.now refl refl
    (omega (arith, c.loop-test.false, rounds))

pub returns-clause-stopped : goal.returns-clause-stopped
returns-clause-stopped g c = turns_stopped c.loop.invariant c.args.runner.now refl refl
