use Rattle.std.proofs.Common.{◌≡◌, [], inl, inr, refl, sym, ap, ◌∙◌, arith}
use Rattle.std.proofs.lemmas.Bool.{true≢false}
use Rattle.counter_core.specs.NoLayers.{no_layer}
use Rattle.adversary_script.specs.Scripts.{Script}
use Rattle.round_runner.specs.Known.{KnowsLocks}
use Rattle.round_runner.proofs.LastKnown.{stops_at, begun_at, start_is, known_at, still_ahead}
use Rattle.round_runner.proofs.until_known.Runner+NoOverlay.play_until_known.Goals as goal

pub skip_to-requires-clause-from : goal.skip_to-requires-clause-from
skip_to-requires-clause-from c =
    let kept = c.self.invariant in
    (start_is _ c.args.self.now _ _ _ c.self.view_is kept.whole kept.within
    c.era_start-begin.ensures c.eras.ensures.value c.max-end.ensures).from

pub skip_to-requires-clause-within : goal.skip_to-requires-clause-within
skip_to-requires-clause-within c =
    let kept = c.self.invariant in
    (start_is _ c.args.self.now _ _ _ c.self.view_is kept.whole kept.within
    c.era_start-begin.ensures c.eras.ensures.value c.max-end.ensures).within

pub loop-self-init : goal.loop-self-init
loop-self-init c =
    let kept = c.self.invariant in
    let start = start_is _ c.args.self.now _ _ _ c.self.view_is kept.whole kept.within
    c.era_start-begin.ensures c.eras.ensures.value c.max-end.ensures in
    let skipped = c.skip_to.ensures.skipped in
    let at = skipped.at in
    let from = start.from in
    let begun = start.begun in
    let within = start.within in
    record {
      skipped = record { plan = skipped.plan; script = skipped.script; at = refl };
      whole = start.whole;
      within = omega (arith, at, within);
      on = omega (arith, at, from);
      begun = omega (arith, at, begun);
      short = λ began plays. elim start.one [
        | inl same ↦ inl (at ∙ same)
        | inr there ↦ (let first = begun_at (λ o. no_layer) (λ o. []) c.args.self.now start.whole
            (omega (arith, from, within)) began plays in
            inr (omega (arith, at, there, first)))
      ];
      played = c.skip_to.ensures.played;
    }

pub round-requires : goal.round-requires
round-requires c =
    let is = c.loop-self.invariant in
    let within = is.within in
    let rounds = ap (λ (s : Script). s.rounds) is.skipped.script in
    let not : KnowsLocks c.loop-self.self → ⊥ =
    λ knows. true≢false (sym (c.knows_locks.ensures.1 knows) ∙ c.loop-self-test.true) in
    let other : (c.loop-self.self.at ≡ c.loop-self.self.script.rounds → ⊥) = λ end. not (inl end) in
    omega (arith, within, rounds, other)

pub loop-self-preserved : goal.loop-self-preserved
loop-self-preserved c =
    let is = c.loop-self.invariant in
    let step = c.round.ensures.advances in
    let at = step.at in
    let on = is.on in
    let begun = is.begun in
    let within = is.within in
    let rounds = ap (λ (s : Script). s.rounds) is.skipped.script in
    let not : KnowsLocks c.loop-self.self → ⊥ =
    λ knows. true≢false (sym (c.knows_locks.ensures.1 knows) ∙ c.loop-self-test.true) in
    let other : (c.loop-self.self.at ≡ c.loop-self.self.script.rounds → ⊥) = λ end. not (inl end) in
    record {
      skipped = record {
        plan = step.plan ∙ is.skipped.plan;
        script = step.script ∙ is.skipped.script;
        at = refl;
      };
      whole = is.whole;
      within = omega (arith, at, within, rounds, other);
      on = omega (arith, at, on);
      begun = omega (arith, at, begun);
      short = λ began plays.
          let ahead = still_ahead c.args.self.now c.loop-self.self is.whole is.skipped.plan
          is.skipped.script is.within began (is.played began plays) is.begun not in
          inr (omega (arith, at, ahead));
      played = λ began plays. c.round.ensures.played began (is.played began plays);
    }

pub loop-self-smaller : goal.loop-self-smaller
loop-self-smaller c =
    let is = c.loop-self.invariant in
    let at = c.round.ensures.advances.at in
    let within = is.within in
    let rounds = ap (λ (s : Script). s.rounds) is.skipped.script in
    let not : KnowsLocks c.loop-self.self → ⊥ =
    λ knows. true≢false (sym (c.knows_locks.ensures.1 knows) ∙ c.loop-self-test.true) in
    let other : (c.loop-self.self.at ≡ c.loop-self.self.script.rounds → ⊥) = λ end. not (inl end) in
    omega (arith, at, within, rounds, other)

pub returns-clause-knows : goal.returns-clause-knows
returns-clause-knows c = c.knows_locks.ensures.0 c.loop-self-test.false

pub returns-clause-stops : goal.returns-clause-stops
returns-clause-stops c = λ began plays.
    let is = c.loop-self.invariant in
    stops_at _ _ _ is.on
    (known_at c.args.self.now c.loop-self.self is.whole is.skipped.plan is.skipped.script is.within
    began (is.played began plays) (c.knows_locks.ensures.0 c.loop-self-test.false))
    (is.short began plays)
