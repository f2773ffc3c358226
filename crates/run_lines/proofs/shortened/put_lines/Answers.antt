use Rattle.std.proofs.Common.{ℕ, [], sym, ap, ◌∙◌, subst, arith}
use Rattle.std.proofs.lemmas.Bool.{true≢false}
use Rattle.counter_core.specs.NoLayers.{no_layer}
use Rattle.adversary_script.specs.Scripts.{Script, IsScript}
use Rattle.run_lines.proofs.Played.{LinesSoFar, lines_begin}
use Rattle.run_lines.proofs.RestBehind.{round_left, lines_on, lines_stop, rest_behind, era_to_end}
use Rattle.run_lines.proofs.RestBehind.{own_is_last}
use Rattle.run_lines.proofs.shortened.put_lines.Goals as goal

pub loop-writer-init : goal.loop-writer-init
loop-writer-init g c = record {
  so_far = subst (λ (i : ℕ). LinesSoFar (λ o. no_layer) (λ o. [])
      (g.L.Lines.wording c.args.lines.now) c.args.runner.now g.K.Sink.told i c.args.runner.now
      c.args.writer.now c.args.writer.now) (sym c.requires.at)
      (lines_begin _ _ _ _ _ c.requires.at c.requires.plays);
  within = omega (arith, c.requires.at);
}

pub known_end-end-requires : goal.known_end-end-requires
known_end-end-requires g c =
    let is = c.loop-writer.invariant in
    round_left _ _ _ _ _ _ is.so_far is.within _ c.knows_locks.ensures c.loop-writer-test.true

pub returns-then-has_failed-clause-lines : goal.returns-then-has_failed-clause-lines
returns-then-has_failed-clause-lines g c =
    let is = c.loop-writer.invariant in
    lines_stop _ _ _ _ _ _ is.so_far is.within (sym c.has_failed.ensures ∙ c.if-has_failed.true)

pub returns-then-has_failed-clause-played : goal.returns-then-has_failed-clause-played
returns-then-has_failed-clause-played g c = λ ok.
    absurd (true≢false (sym c.if-has_failed.true ∙ c.has_failed.ensures ∙ ok))

pub returns-then-has_failed-clause-knows : goal.returns-then-has_failed-clause-knows
returns-then-has_failed-clause-knows g c = λ ok.
    absurd (true≢false (sym c.if-has_failed.true ∙ c.has_failed.ensures ∙ ok))

pub loop-writer-preserved : goal.loop-writer-preserved
loop-writer-preserved g c =
    let is = c.loop-writer.invariant in
    let end = c.known_end-end.ensures in
    let skipped = c.skip_to.ensures.skipped in
    let rounds = ap (λ (s : Script). s.rounds) is.so_far.played.script in
    record {
      so_far = subst (λ (i : ℕ). LinesSoFar (λ o. no_layer) (λ o. [])
          (g.L.Lines.wording c.args.lines.now) c.args.runner.now g.K.Sink.told i
          c.skip_to.new.self c.args.writer.now c.put_known.new.writer) (sym skipped.at)
          (lines_on _ _ _ _ _ _ is.so_far is.within _ end.later _ _
          (c.put_known.ensures [] is.so_far.played.plays) skipped (c.skip_to.ensures.played []));
      within = omega (arith, end.within, rounds, skipped.at);
    }

pub loop-writer-smaller : goal.loop-writer-smaller
loop-writer-smaller g c =
    let is = c.loop-writer.invariant in
    let end = c.known_end-end.ensures in
    let skipped = c.skip_to.ensures.skipped in
    let rounds = ap (λ (s : Script). s.rounds) is.so_far.played.script in
    omega (arith, end.later, end.within, rounds, skipped.at)

pub put_known-requires-2-clause-era : goal.put_known-requires-2-clause-era
put_known-requires-2-clause-era g c =
    let is = c.loop-writer.invariant in
    let read = c.script.ensures ∙ sym is.so_far.played.script in
    let rounds = c.rounds-rounds.ensures.value ∙ ap (λ (s : Script). s.rounds) read in
    let whole = subst IsScript read c.rounds-rounds.ensures.script in
    let last = era_to_end c.loop-writer.runner whole
    (c.knows_locks.ensures.0 c.loop-writer-test.false) in
    omega (arith, last, rounds)

pub put_known-requires-2-clause-own : goal.put_known-requires-2-clause-own
put_known-requires-2-clause-own g c = λ none.
    let is = c.loop-writer.invariant in
    let read = c.script.ensures ∙ sym is.so_far.played.script in
    let rounds = c.rounds-rounds.ensures.value ∙ ap (λ (s : Script). s.rounds) read in
    let whole = subst IsScript read c.rounds-rounds.ensures.script in
    let last = own_is_last c.loop-writer.runner whole
    (c.knows_locks.ensures.0 c.loop-writer-test.false) none in
    omega (arith, last, rounds)

pub returns-clause-lines : goal.returns-clause-lines
returns-clause-lines g c =
    let is = c.loop-writer.invariant in
    let rounds = c.rounds-rounds.ensures.value
    ∙ ap (λ (s : Script). s.rounds) c.script.ensures in
    rest_behind _ _ _ _ _ _ is.so_far is.within _ _ (omega (arith, rounds))
    (c.put_known-2.ensures [] is.so_far.played.plays)

pub returns-clause-played : goal.returns-clause-played
returns-clause-played g c = λ ok. c.loop-writer.invariant.so_far.played

pub returns-clause-knows : goal.returns-clause-knows
returns-clause-knows g c = λ ok. c.knows_locks.ensures.0 c.loop-writer-test.false
