use Rattle.std.proofs.Common.{◌≡◌, ◌+◌, ◌-◌, ℕ, [], ap, ◌∙◌, subst, arith}
use Rattle.adversary_script.specs.Scripts.{Script}
use Rattle.run_explanations.specs.Explanations.{seen_at}
use Rattle.run_explanations.specs.Playing.{HasPlayed}
use Rattle.run_explanations.specs.Searching.{stretch_before}
use Rattle.run_explanations.proofs.Ending.{stretch_begin}
use Rattle.run_explanations.proofs.Taking.{count_now, read_on, skipped_plays, stretch_taken}
use Rattle.run_explanations.proofs.explaining.look_over.Goals as goal

pub skip_to-requires-clause-from : goal.skip_to-requires-clause-from
skip_to-requires-clause-from c = let at = c.requires.start.at in omega (arith, at)

pub skip_to-requires-clause-within : goal.skip_to-requires-clause-within
skip_to-requires-clause-within c =
    let beat = c.args.top.small.beat in
    omega (arith, beat, c.requires.end)

pub loop-init : goal.loop-init
loop-init c = record {
  stretch = stretch_begin c.args.top.numbers c.args.window c.args.runner.now.plan
      c.args.runner.now.script _ (omega arith) _ c.no_stretch-stretch.ensures;
  played = skipped_plays c.args.runner.now _ c.args.window _ (omega arith)
      c.skip_to.ensures.skipped (c.skip_to.ensures.played [] c.requires.start.read.plays);
}

pub next_stretch-stretch-requires-clause-read : goal.next_stretch-stretch-requires-clause-read
next_stretch-stretch-requires-clause-read c =
    let beat = c.args.top.small.beat in
    read_on _ c.args.runner.now _ _ c.requires.start.read c.loop.invariant.played
    (omega (arith, beat, c.requires.end, c.loop-test.true))

pub next_stretch-stretch-requires-clause-few : goal.next_stretch-stretch-requires-clause-few
next_stretch-stretch-requires-clause-few c =
    let read = c.requires.start.read in
    let at = c.loop.invariant.played.at in
    let count = count_now c.args.top.numbers c.args.window c.args.runner.now.plan
    c.args.runner.now.script read.reads.top_is read.top_is _ _ c.loop.invariant.stretch in
    omega (arith, count, at)

pub round-requires : goal.round-requires
round-requires c =
    let beat = c.args.top.small.beat in
    let at = c.loop.invariant.played.at in
    let rounds = ap (λ (s : Script). s.rounds) c.loop.invariant.played.script in
    omega (arith, beat, at, rounds, c.requires.end, c.loop-test.true)

pub loop-preserved : goal.loop-preserved
loop-preserved c =
    let is = c.loop.invariant in
    let step = c.round.ensures.advances in
    let next : c.args.window + c.loop.counter + 1 ≡ c.args.window + (c.loop.counter + 1) =
    omega arith in
    record {
      stretch = stretch_taken c.args.top.numbers c.args.window c.args.runner.now
          c.loop.runner _ is.played (omega arith) c.loop.stretch _ is.stretch
          c.next_stretch-stretch.ensures
          ∙ ap (λ (i : ℕ). stretch_before c.args.top.numbers.beat c.args.window
          (seen_at c.args.runner.now.plan c.args.runner.now.script) i) next;
      played = record {
        plan = step.plan ∙ is.played.plan;
        script = step.script ∙ is.played.script;
        at = step.at ∙ (ap (λ (i : ℕ). i + 1) is.played.at ∙ next);
        plays = c.round.ensures.played _ is.played.plays;
      };
    }

pub next_stretch-requires-clause-read : goal.next_stretch-requires-clause-read
next_stretch-requires-clause-read c =
    let beat = c.args.top.small.beat in
    read_on _ c.args.runner.now _ _ c.requires.start.read c.loop.invariant.played
    (omega (arith, beat, c.requires.end, c.loop.auto.counter-end))

pub next_stretch-requires-clause-few : goal.next_stretch-requires-clause-few
next_stretch-requires-clause-few c =
    let read = c.requires.start.read in
    let at = c.loop.invariant.played.at in
    let count = count_now c.args.top.numbers c.args.window c.args.runner.now.plan
    c.args.runner.now.script read.reads.top_is read.top_is _ _ c.loop.invariant.stretch in
    omega (arith, count, at)

pub returns-clause-stretch : goal.returns-clause-stretch
returns-clause-stretch c =
    let beat = c.args.top.small.beat in
    let is = c.loop.invariant in
    let end : c.args.window + c.loop.counter + 1 ≡ c.args.window + c.args.top.numbers.beat =
    omega (arith, beat, c.loop-test.false, c.loop.auto.counter-end) in
    stretch_taken c.args.top.numbers c.args.window c.args.runner.now c.loop.runner _
    is.played (omega arith) c.loop.stretch _ is.stretch c.next_stretch.ensures
    ∙ ap (λ (i : ℕ). stretch_before c.args.top.numbers.beat c.args.window
    (seen_at c.args.runner.now.plan c.args.runner.now.script) i) end

pub returns-clause-played : goal.returns-clause-played
returns-clause-played c =
    let beat = c.args.top.small.beat in
    let end : c.args.window + c.loop.counter ≡ c.args.window + c.args.top.numbers.beat - 1 =
    omega (arith, beat, c.loop-test.false, c.loop.auto.counter-end) in
    subst (λ (i : ℕ). HasPlayed c.args.runner.now i c.loop.runner) end c.loop.invariant.played
