use Rattle.std.proofs.Common.{ℕ, [], refl, sym, ap, ◌∙◌, subst, arith}
use Rattle.adversary_script.specs.Scripts.{Script}
use Rattle.run_explanations.specs.Explanations.{era_begin}
use Rattle.run_explanations.specs.Playing.{IsFound}
use Rattle.run_explanations.proofs.Ending.{found_begin, round_left, found_all, known_then}
use Rattle.run_explanations.proofs.Taking.{count_now, read_on, skipped_plays, search_taken}
use Rattle.run_explanations.proofs.explaining.first_found.Goals as goal

pub skip_to-requires-clause-from : goal.skip_to-requires-clause-from
skip_to-requires-clause-from c = let at = c.requires.at in omega (arith, at)

pub skip_to-requires-clause-within : goal.skip_to-requires-clause-within
skip_to-requires-clause-within c =
    let rounds = ap (λ (s : Script). s.rounds) c.script.ensures in
    omega (arith, rounds, c.last_begin-begin.ensures.within)

pub loop-runner-init : goal.loop-runner-init
loop-runner-init c =
    let skipped = c.skip_to.ensures.skipped in
    let at = skipped.at in
    let begin = c.last_begin-begin.ensures.value ∙ ap era_begin c.script.ensures in
    let rounds = ap (λ (s : Script). s.rounds) c.script.ensures in
    record {
      found = found_begin c.args.top.numbers _ c.args.runner.now.plan c.args.runner.now.script
          c.skip_to.new.self.at _ (at ∙ begin) c.begun-search.ensures;
      played = skipped_plays c.args.runner.now _ _ _ (sym at) skipped
          (c.skip_to.ensures.played [] c.requires.read.plays);
      begun = omega (arith, at, begin);
      within = omega (arith, at, rounds, c.last_begin-begin.ensures.within);
    }

pub take-search-requires-clause-read : goal.take-search-requires-clause-read
take-search-requires-clause-read c =
    let is = c.loop-runner.invariant in
    read_on _ c.args.runner.now _ _ c.requires.read is.played is.within

pub take-search-requires-clause-few : goal.take-search-requires-clause-few
take-search-requires-clause-few c =
    let is = c.loop-runner.invariant in
    let read = c.requires.read in
    let count = count_now c.args.top.numbers (era_begin c.args.runner.now.script)
    c.args.runner.now.plan c.args.runner.now.script
    read.reads.top_is read.top_is _ _ is.found.stretch in
    omega (arith, count)

pub round-requires : goal.round-requires
round-requires c =
    let is = c.loop-runner.invariant in
    round_left _ _ _ _ _ is.found is.played is.within _ c.is_enough.ensures c.loop-runner-test.true

pub loop-runner-preserved : goal.loop-runner-preserved
loop-runner-preserved c =
    let is = c.loop-runner.invariant in
    let step = c.round.ensures.advances in
    let at = step.at in
    let begun = is.begun in
    let left = round_left _ _ _ _ _ is.found is.played is.within _ c.is_enough.ensures
    c.loop-runner-test.true in
    let rounds = ap (λ (s : Script). s.rounds) is.played.script in
    record {
      found = subst (λ (i : ℕ). IsFound c.args.top.numbers (era_begin c.args.runner.now.script)
          c.args.runner.now.plan c.args.runner.now.script i c.take-search.result) (sym at)
          (search_taken _ _ c.args.runner.now c.loop-runner.runner _ _ is.played is.begun is.found
          c.take-search.ensures);
      played = record {
        plan = step.plan ∙ is.played.plan;
        script = step.script ∙ is.played.script;
        at = refl;
        plays = c.round.ensures.played _ is.played.plays;
      };
      begun = omega (arith, begun, at);
      within = omega (arith, left, rounds, at);
    }

pub loop-runner-smaller : goal.loop-runner-smaller
loop-runner-smaller c =
    let is = c.loop-runner.invariant in
    let at = c.round.ensures.advances.at in
    let left = round_left _ _ _ _ _ is.found is.played is.within _ c.is_enough.ensures
    c.loop-runner-test.true in
    let rounds = ap (λ (s : Script). s.rounds) is.played.script in
    omega (arith, left, rounds, at)

pub take-requires-clause-read : goal.take-requires-clause-read
take-requires-clause-read c =
    let is = c.loop-runner.invariant in
    read_on _ c.args.runner.now _ _ c.requires.read is.played is.within

pub take-requires-clause-few : goal.take-requires-clause-few
take-requires-clause-few c =
    let is = c.loop-runner.invariant in
    let read = c.requires.read in
    let count = count_now c.args.top.numbers (era_begin c.args.runner.now.script)
    c.args.runner.now.plan c.args.runner.now.script
    read.reads.top_is read.top_is _ _ is.found.stretch in
    omega (arith, count)

pub returns-clause-found : goal.returns-clause-found
returns-clause-found c =
    let is = c.loop-runner.invariant in
    found_all _ _ _ _ _ is.found is.played is.within _
    (search_taken _ _ c.args.runner.now c.loop-runner.runner _ _ is.played is.begun is.found
    c.take.ensures) (c.is_enough.ensures.0 c.loop-runner-test.false)

pub returns-clause-played : goal.returns-clause-played
returns-clause-played c = c.loop-runner.invariant.played

pub returns-clause-knows : goal.returns-clause-knows
returns-clause-knows c =
    let is = c.loop-runner.invariant in
    known_then _ _ _ _ _ is.found is.played is.within
    (c.is_enough.ensures.0 c.loop-runner-test.false)

pub returns-clause-within : goal.returns-clause-within
returns-clause-within c = c.loop-runner.invariant.within
