use Rattle.std.proofs.Common.{◌≡◌, ◌+◌, ◌<◌, ◌∙◌, cond, length, sym, ap, subst, arith}
use Rattle.std.proofs.lemmas.Bool.{lt-ltb}
use Rattle.adversary_script.specs.Eras.{era_of, first_of_era, end_of_era}
use Rattle.round_runner.specs.Runners.{Running}
use Rattle.machine_runner.proofs.Firsts.{era_before}
use Rattle.round_runner.proofs.runners.Runner.era_end.Goals as goal

pub returns-then-behind-eras-clause-value : goal.returns-then-behind-eras-clause-value
returns-then-behind-eras-clause-value g c =
    let script = c.self.inside.script in
    let era = c.self.inside.era in
    let more : era < length script.eras =
    omega (arith, c.if-behind-eras.true, c.eras.ensures.value) in
    let end : c.era_start.result ≡ end_of_era script era = c.era_start.ensures
    ∙ sym (ap (λ b. cond b (first_of_era script (era + 1)) (script.rounds + 1))
    (lt-ltb era (length script.eras) more)) in
    subst (λ (r : Running _). c.era_start.result ≡ end_of_era r.script (era_of r.script r.at))
    c.self.view_is (end ∙ ap (end_of_era script) c.self.invariant.here)

pub returns-then-behind-eras-clause-behind : goal.returns-then-behind-eras-clause-behind
returns-then-behind-eras-clause-behind g c =
    let inside = c.self.inside in
    let kept = c.self.invariant in
    let before = subst (λ (r : Running _). r.at < end_of_era r.script (era_of r.script r.at))
    c.self.view_is (era_before inside.script kept.whole.formed.rising inside.at kept.within) in
    omega (arith, before, returns-then-behind-eras-clause-value g c)
