use Rattle.std.proofs.Common.{◌≡◌, ℕ, sym, ap, ap₂, ◌∙◌, subst}
use Rattle.std.specs.Prelude.{is_some}
use Rattle.sync_types.specs.FaultSets.{FaultIds}
use Rattle.construction.specs.Plans.{plan_depth}
use Rattle.construction.specs.Shown.{shown}
use Rattle.construction.specs.Steps.{state_of}
use Rattle.adversary_script.specs.Eras.{era_of, faulty_of_era}
use Rattle.round_runner.specs.Known.{lowest_correct, CountsOn}
use Rattle.round_runner.specs.Runners.{Running, configuration_of}
use Rattle.round_runner.proofs.CountsOn.{view_counts}
use Rattle.round_runner.proofs.runners.Runner.counted.Goals as goal

pub returns-clause-shown : goal.returns-clause-shown
returns-clause-shown g c =
    let r = c.args.self.now in
    let kept = c.self.invariant in
    let faulty : c.era_faulty-faulty.result.now.ids
    ≡ faulty_of_era r.script (era_of r.script r.at) =
    subst (λ (r : Running _). c.era_faulty-faulty.result.now.ids
    ≡ faulty_of_era r.script (era_of r.script r.at)) c.self.view_is
    (ap (λ (s : FaultIds). s.ids) c.era_faulty-faulty.ensures
    ∙ ap (faulty_of_era c.self.inside.script) kept.here) in
    c.output.ensures ∙ ap (λ (v : ℕ). shown (plan_depth r.plan) (state_of r.states v))
    (c.lowest_correct.ensures.value ∙ ap₂ lowest_correct c.nodes.ensures faulty)

pub returns-clause-counts : goal.returns-clause-counts
returns-clause-counts g c = λ began plays.
    let r = c.args.self.now in
    let kept = c.self.invariant in
    subst (CountsOn r.plan r.script (configuration_of g.O.Overlay.layer began r) r.at)
    (sym (returns-clause-shown g c))
    (view_counts g.O.Overlay.layer g.O.Overlay.kept _ r c.self.view_is kept.accepted kept.right
    kept.sound kept.whole kept.within (sym (ap is_some c.in_ok-_locked.ensures.value)) began plays)
