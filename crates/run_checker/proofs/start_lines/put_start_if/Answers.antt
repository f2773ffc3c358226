use Rattle.std.proofs.Common.{sym, ap, ◌∙◌, subst}
use Rattle.adversary_script.specs.Scripts.{Script}
use Rattle.run_checker.specs.Recorded.{is_put}
use Rattle.run_checker.specs.Playing.{Begins}
use Rattle.run_checker.proofs.Recording.{not_stated, stated}
use Rattle.run_checker.proofs.start_lines.put_start_if.Goals as goal

pub returns-then-not-is_put-clause-text : goal.returns-then-not-is_put-clause-text
returns-then-not-is_put-clause-text g c =
    let plan = c.args.runner.now.plan in
    let is = c.is_put.ensures plan
    ∙ ap (λ (s : Script). is_put plan s c.args.t c.args.v) c.script.ensures in
    not_stated _ (sym is ∙ c.if-not-is_put.true)

pub returns-clause-text : goal.returns-clause-text
returns-clause-text g c =
    let plan = c.args.runner.now.plan in
    let is = c.is_put.ensures plan
    ∙ ap (λ (s : Script). is_put plan s c.args.t c.args.v) c.script.ensures in
    stated (sym is ∙ c.if-not-is_put.false) c.put_start.ensures.text

pub is_put-requires : goal.is_put-requires
is_put-requires g c =
    subst (λ (s : Script). Begins s c.args.t c.args.j) (sym c.script.ensures) c.requires.begins
