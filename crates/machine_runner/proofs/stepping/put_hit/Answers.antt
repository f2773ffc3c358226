use Rattle.std.proofs.Common.{Option, unwrap_or, sym, ap, ◌∙◌, subst}
use Rattle.sync_types.specs.States.{State}
use Rattle.adversary_script.proofs.Hits.{hit_is}
use Rattle.machine_runner.specs.Beginnings.{BeginsAt}
use Rattle.machine_runner.proofs.Firsts.{none_hit}
use Rattle.machine_runner.proofs.stepping.put_hit.Goals as goal

pub returns-in-Some-clause-state : goal.returns-in-Some-clause-state
returns-in-Some-clause-state c =
    let script = c.args.script.now in
    let begins = subst (BeginsAt script c.args.t) c.in-Some.is c.requires.begins in
    let hit = hit_is script c.args.t c.args.v c.in-Some.era
    c.rounds-rounds.ensures.script.formed.rising begins.0 begins.1 begins.2 in
    c.hit_into.ensures.value ∙ ap (λ (hit : Option State). unwrap_or hit c.args.out.now) (sym hit)

pub returns-in_default-clause-state : goal.returns-in_default-clause-state
returns-in_default-clause-state c =
    let none = subst (BeginsAt c.args.script.now c.args.t) c.in_default.is c.requires.begins in
    sym (ap (λ (hit : Option State). unwrap_or hit c.args.out.now)
    (none_hit c.args.script.now c.args.t c.args.v none))
