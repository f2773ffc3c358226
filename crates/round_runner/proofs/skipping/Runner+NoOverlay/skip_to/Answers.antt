use Rattle.std.proofs.Common.{◌≡◌, refl, ap, ◌∙◌, arith}
use Rattle.adversary_script.specs.Scripts.{Script}
use Rattle.round_runner.proofs.skipping.Runner+NoOverlay.skip_to.Goals as goal

pub loop-self-init : goal.loop-self-init
loop-self-init c = record {
  skipped = record { plan = refl; script = refl; at = refl };
  within = c.requires.from;
  played = λ began plays. plays;
}

pub skip-requires-clause-within : goal.skip-requires-clause-within
skip-requires-clause-within c =
    let rounds = ap (λ (s : Script). s.rounds) c.loop-self.invariant.skipped.script in
    omega (arith, rounds, c.requires.within)

pub loop-self-preserved : goal.loop-self-preserved
loop-self-preserved c =
    let is = c.loop-self.invariant in
    let skip = c.skip.ensures in
    record {
      skipped = record {
        plan = skip.skipped.plan ∙ is.skipped.plan;
        script = skip.skipped.script ∙ is.skipped.script;
        at = refl;
      };
      within = skip.to;
      played = λ began plays. skip.played began (is.played began plays);
    }

pub returns-clause-skipped : goal.returns-clause-skipped
returns-clause-skipped c =
    let is = c.loop-self.invariant in
    let end : c.loop-self.self.at ≡ c.args.end =
    omega (arith, is.within, c.at.ensures, c.loop-self-test.false) in
    record { plan = is.skipped.plan; script = is.skipped.script; at = end }
