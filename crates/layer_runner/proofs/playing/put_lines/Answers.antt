use Rattle.std.proofs.Common.{ℕ, ◌+◌, List, sym, ap, ◌∙◌, arith}
use Rattle.std.proofs.lemmas.Bool.{true≢false}
use Rattle.edge_io.specs.Rising.{Labelled}
use Rattle.adversary_script.specs.Scripts.{Script}
use Rattle.layer_runner.specs.PlayedTexts.{numbered}
use Rattle.layer_runner.proofs.Played.{lines_begin, at_is, has_round, lines_go_on, lines_stop}
use Rattle.layer_runner.proofs.Played.{lines_end, at_last}
use Rattle.layer_runner.proofs.playing.put_lines.Goals as goal

pub loop-init : goal.loop-init
loop-init g c = record {
  so_far = lines_begin _ _ _ _ c.facts.ensures.whole c.requires;
  number = c.new-number.ensures ∙ ap (λ (label : List ℕ). numbered label 0) c.label.ensures.value;
}

pub put_if_shown-requires : goal.put_if_shown-requires
put_if_shown-requires g c =
    c.loop.invariant.number
    ∙ ap (numbered (g.L.Lines.wording c.args.lines.now).label)
    (sym (at_is _ _ _ _ _ _ _ c.loop.invariant.so_far))

pub returns-then-has_failed-clause-lines : goal.returns-then-has_failed-clause-lines
returns-then-has_failed-clause-lines g c =
    let rounds = c.rounds-rounds.ensures.value ∙ ap (λ (s : Script). s.rounds) c.script.ensures in
    lines_stop _ _ _ _ _ _ _ c.loop.invariant.so_far (omega (arith, rounds, c.loop-test.true))
    (sym c.has_failed.ensures ∙ c.if-has_failed.true)

pub returns-then-has_failed-clause-played : goal.returns-then-has_failed-clause-played
returns-then-has_failed-clause-played g c = λ ok.
    absurd (true≢false (sym c.if-has_failed.true ∙ c.has_failed.ensures ∙ ok))

pub round-requires : goal.round-requires
round-requires g c =
    has_round _ _ _ _ _ _ _ c.loop.invariant.so_far _
    (c.rounds-rounds.ensures.value ∙ ap (λ (s : Script). s.rounds) c.script.ensures)
    c.loop-test.true

pub loop-preserved : goal.loop-preserved
loop-preserved g c = record {
  so_far = lines_go_on _ _ _ _ _ _ _ c.loop.invariant.so_far _ _ c.put_if_shown.ensures
      c.round.ensures;
  number = c.rise.ensures
      ∙ ap (λ (n : Labelled). record n { value = n.value + 1 }) c.loop.invariant.number;
}

pub returns-clause-lines : goal.returns-clause-lines
returns-clause-lines g c =
    let rounds = c.rounds-rounds.ensures.value ∙ ap (λ (s : Script). s.rounds) c.script.ensures in
    lines_end _ _ _ _ _ _ _ c.loop.invariant.so_far _
    (omega (arith, rounds, c.loop.auto.counter-end, c.loop-test.false)) c.put_if_shown-2.ensures

pub returns-clause-played : goal.returns-clause-played
returns-clause-played g c = λ ok.
    let rounds = c.rounds-rounds.ensures.value ∙ ap (λ (s : Script). s.rounds) c.script.ensures in
    at_last _ _ _ _ _ _ _ c.loop.invariant.so_far
    (omega (arith, rounds, c.loop.auto.counter-end, c.loop-test.false))
