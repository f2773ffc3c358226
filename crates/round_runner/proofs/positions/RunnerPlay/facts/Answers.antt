use Rattle.std.proofs.Common.{◌≤◌, subst}
use Rattle.plan_numbers.specs.Premises.{IsAccepted}
use Rattle.adversary_script.specs.Scripts.{IsScript}
use Rattle.round_runner.specs.Runners.{Running, IsPlayableOn}
use Rattle.round_runner.proofs.FitsCounter.{is_fitting}
use Rattle.round_runner.proofs.positions.RunnerPlay.facts.Goals as goal

pub returns : goal.returns
returns g c =
    let is = c.self.invariant in
    let whole = subst (λ (r : Running _). IsScript r.script) c.self.view_is is.whole in
    let within = subst (λ (r : Running _). r.at ≤ r.script.rounds) c.self.view_is is.within in
    let accepted = subst (λ (r : Running _). IsAccepted r.plan) c.self.view_is is.accepted in
    let right = subst (λ (r : Running _). IsPlayableOn r.plan
    (g.O.Overlay.layer r.overlay) r.script)
    c.self.view_is is.right in
    is_fitting g.O.Overlay.layer g.O.Overlay.kept c.args.self.now accepted right whole within
