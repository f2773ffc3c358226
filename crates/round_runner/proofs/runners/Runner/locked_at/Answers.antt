use Rattle.std.proofs.Common.{◌≡◌, ◌+◌, ◌<◌, ◌≤◌, ℕ, subst, arith}
use Rattle.adversary_script.specs.Scripts.{IsScript}
use Rattle.adversary_script.specs.Eras.{era_of, first_of_era, end_of_era}
use Rattle.construction.specs.Plans.{plan_bound}
use Rattle.round_runner.specs.Laws.{IsUpTo}
use Rattle.round_runner.specs.Locks.{IsFirstLocked}
use Rattle.round_runner.specs.Runners.{Running, configuration_of}
use Rattle.machine_runner.proofs.Firsts.{era_before}
use Rattle.round_runner.proofs.runners.Runner.locked_at.Goals as goal

pub returns-clause-first : goal.returns-clause-first
returns-clause-first g c = λ began plays.
    let era : c.self.inside.era ≡ era_of c.args.self.now.script c.args.self.now.at =
    subst (λ (r : Running _). c.self.inside.era ≡ era_of r.script r.at) c.self.view_is
    c.self.invariant.here in
    subst (λ (j : ℕ). IsFirstLocked c.args.self.now.plan c.args.self.now.script
    (configuration_of g.O.Overlay.layer began c.args.self.now) j c.args.self.now.at
    c.locked_in.result) era
    (c.locked_in.ensures.first began plays)

pub returns-clause-by_bound : goal.returns-clause-by_bound
returns-clause-by_bound g c = λ began plays reached.
    let script = c.args.self.now.script in
    let bound : ℕ = plan_bound c.args.self.now.plan in
    let whole : IsScript script = subst (λ (r : Running _). IsScript r.script) c.self.view_is
    c.self.invariant.whole in
    let within = subst (λ (r : Running _). r.at ≤ r.script.rounds) c.self.view_is
    c.self.invariant.within in
    let era : c.self.inside.era ≡ era_of script c.args.self.now.at =
    subst (λ (r : Running _). c.self.inside.era ≡ era_of r.script r.at) c.self.view_is
    c.self.invariant.here in
    let before = era_before script whole.formed.rising c.args.self.now.at within in
    let known : (j : ℕ) → c.self.inside.era ≡ j
    → first_of_era script j + bound < end_of_era script j
    → first_of_era script j + bound ≤ c.args.self.now.at
    → IsUpTo (first_of_era script j + bound) c.locked_in.result = λ j is reaches reached.
    subst (λ j. first_of_era script j + bound < end_of_era script j
    → first_of_era script j + bound ≤ c.args.self.now.at
    → IsUpTo (first_of_era script j + bound) c.locked_in.result) is
    (c.locked_in.ensures.by_bound began plays) reaches reached in
    known (era_of script c.args.self.now.at) era (omega (arith, before, reached)) reached
