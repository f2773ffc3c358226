use Rattle.std.proofs.Common.{◌+◌, ◌-◌, ◌∙◌, refl, sym, ap, subst, arith}
use Rattle.std.proofs.lemmas.Bool.{false≢true}
use Rattle.adversary_script.specs.Scripts.{Script}
use Rattle.run_explanations.specs.declared.tops.Top.{Top}
use Rattle.run_explanations.specs.Playing.{HasPlayed}
use Rattle.run_explanations.specs.Explanations.{era_begin}
use Rattle.run_explanations.specs.Tops.{IsTop}
use Rattle.run_explanations.proofs.Checked.{check_passes, check_fits, result_is, fits_era, era_fits}
use Rattle.run_explanations.proofs.Checked.{fits_any}
use Rattle.run_explanations.proofs.Taking.{read_begin}
use Rattle.run_explanations.proofs.explaining.check_explanation.Goals as goal

pub returns-then-not-fits-clause-exact : goal.returns-then-not-fits-clause-exact
returns-then-not-fits-clause-exact c =
    let plan = c.args.plan.now in
    let script = c.args.runner.now.script in
    let e = c.args.explanation.now in
    let begin = c.last_begin-from.ensures.value ∙ ap era_begin c.script-script.ensures in
    let rounds = c.rounds-rounds.ensures.value
    ∙ ap (λ (s : Script). s.rounds) c.script-script.ensures in
    let small = subst IsTop c.top_of-top.ensures c.top_of-top.result.small in (
      λ yes. absurd (false≢true yes),
      λ why. sym c.if-not-fits.true ∙ c.fits.ensures.1
          (era_fits plan script c.top_of-top.result.numbers _ _ e c.top_of-top.ensures begin rounds
          (check_fits plan script small e why)),
    )

pub returns-then-not-fits-clause-played : goal.returns-then-not-fits-clause-played
returns-then-not-fits-clause-played c =
    let plan = c.args.plan.now in
    let script = c.args.runner.now.script in
    let e = c.args.explanation.now in
    let begin = c.last_begin-from.ensures.value ∙ ap era_begin c.script-script.ensures in
    let rounds = c.rounds-rounds.ensures.value
    ∙ ap (λ (s : Script). s.rounds) c.script-script.ensures in
    record {
      fits = λ fits. absurd (false≢true (sym c.if-not-fits.true ∙ c.fits.ensures.1
          (era_fits plan script c.top_of-top.result.numbers _ _ e c.top_of-top.ensures begin rounds
          fits)));
      strays = λ no. refl;
    }

pub look_over-stretch-requires-clause-start : goal.look_over-stretch-requires-clause-start
look_over-stretch-requires-clause-start c =
    read_begin c.args.plan.now _ c.args.runner.now c.requires.start c.requires.level
    c.top_of-top.result.small c.top_of-top.ensures

pub look_over-stretch-requires-clause-end : goal.look_over-stretch-requires-clause-end
look_over-stretch-requires-clause-end c =
    let window = (c.fits.ensures.0 c.if-not-fits.false).window in
    let rounds = c.rounds-rounds.ensures.value
    ∙ ap (λ (s : Script). s.rounds) c.script-script.ensures in
    omega (arith, window, rounds)

pub is_of-requires : goal.is_of-requires
is_of-requires c =
    let rounds = c.rounds-rounds.ensures.value
    ∙ ap (λ (s : Script). s.rounds) c.script-script.ensures in
    let read = c.script.ensures ∙ c.look_over-stretch.ensures.played.script in
    fits_any _ _ _ _ _ (rounds ∙ sym (ap (λ (s : Script). s.rounds) read))
    (c.fits.ensures.0 c.if-not-fits.false)

pub returns-clause-played : goal.returns-clause-played
returns-clause-played c =
    let plan = c.args.plan.now in
    let script = c.args.runner.now.script in
    let e = c.args.explanation.now in
    let begin = c.last_begin-from.ensures.value ∙ ap era_begin c.script-script.ensures in
    let rounds = c.rounds-rounds.ensures.value
    ∙ ap (λ (s : Script). s.rounds) c.script-script.ensures in
    record {
      fits = λ fits. subst (λ (t : Top).
          HasPlayed c.args.runner.now (e.window + t.beat - 1) c.look_over-stretch.new.runner)
          c.top_of-top.ensures c.look_over-stretch.ensures.played;
      strays =
          λ no. absurd
          (no
          (fits_era plan script c.top_of-top.result.numbers _ _ e c.top_of-top.ensures begin
          rounds
          (c.fits.ensures.0 c.if-not-fits.false)));
    }

pub returns-clause-exact : goal.returns-clause-exact
returns-clause-exact c =
    let plan = c.args.plan.now in
    let script = c.args.runner.now.script in
    let e = c.args.explanation.now in
    let begin = c.last_begin-from.ensures.value ∙ ap era_begin c.script-script.ensures in
    let rounds = c.rounds-rounds.ensures.value
    ∙ ap (λ (s : Script). s.rounds) c.script-script.ensures in
    let small = subst IsTop c.top_of-top.ensures c.top_of-top.result.small in
    let read = c.script.ensures ∙ c.look_over-stretch.ensures.played.script in
    check_passes plan script small e c.is_of.result
    (fits_era plan script c.top_of-top.result.numbers _ _ e c.top_of-top.ensures begin rounds
    (c.fits.ensures.0 c.if-not-fits.false))
    (result_is plan _ script c.top_of-top.result.numbers c.args.runner.now.plan
    c.look_over-stretch.result e c.is_of.result c.top_of-top.ensures c.requires.start.plan_is read
    c.look_over-stretch.ensures.stretch c.is_of.ensures)
