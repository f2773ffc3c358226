-- The configurations of which lines are written while a runner plays.
use Rattle.std.proofs.Common.{◌≡◌, ℕ, ◌+◌, ◌-◌, ◌<◌, ◌≤◌, List, [], All, sym}
use Rattle.std.proofs.Common.{ap, ap₂, ◌∙◌, subst, arith}
use Rattle.construction.specs.Plans.{Plan, plan_nodes}
use Rattle.counter_core.specs.declared.overlays.NoOverlay.{NoOverlay}
use Rattle.counter_core.specs.NoLayers.{no_layer}
use Rattle.adversary_script.specs.Scripts.{Script}
use Rattle.round_runner.specs.Played.{played_at}
use Rattle.round_runner.specs.Runners.{Running, IsPlaying, Advances}
use Rattle.round_runner.proofs.Playing.{bare_is_played}
use Rattle.trace.specs.declared.desks.TraceBuffers.{TraceBuffers}
use Rattle.trace.specs.Desks.{IsMade, IsFitFor}
use Rattle.trace.specs.TraceTexts.{moment_text}
use Rattle.trace.specs.Wants.{IsAt}

module _ (start : Running NoOverlay) where
  module _ (t : ℕ) (r : Running NoOverlay) (here : IsAt start t r) where
    pub has_round : t < start.script.rounds → r.at < r.script.rounds
    has_round lt =
        let rounds = ap (λ (s : Script). s.rounds) here.script in
        omega (arith, lt, rounds, here.at)

    pub at_more : (new : Running NoOverlay) → Advances (λ o. no_layer) (λ o. []) r new
        → (IsPlaying (λ o. no_layer) (λ o. []) [] r → IsPlaying (λ o. no_layer) (λ o. []) [] new)
        → IsAt start (t + 1) new
    at_more new step plays = record {
      plan = step.plan ∙ here.plan;
      script = step.script ∙ here.script;
      at = step.at ∙ ap (λ (n : ℕ). n + 1) here.at;
      plays = plays here.plays;
    }

    pub fit_here : (desk : TraceBuffers) → IsFitFor start desk → IsFitFor r desk
    fit_here desk fit =
        subst (λ (s : Script). IsMade r.plan s.shape.depth desk) (sym here.script)
        (subst (λ (p : Plan). IsMade p start.script.shape.depth desk) (sym here.plan) fit)

    pub fit_back : (desk : TraceBuffers) → IsFitFor r desk → IsFitFor start desk
    fit_back desk fit =
        subst (λ (s : Script). IsMade start.plan s.shape.depth desk) here.script
        (subst (λ (p : Plan). IsMade p r.script.shape.depth desk) here.plan fit)

    pub nodes_here : (nodes : List ℕ) → All (λ v. v < plan_nodes start.plan) nodes
        → All (λ v. v < plan_nodes r.plan) nodes
    nodes_here nodes all =
        subst (λ (p : Plan). All (λ v. v < plan_nodes p) nodes) (sym here.plan) all

  module _ (nodes : List ℕ) (first : ℕ) where
    abbrev pub text : ℕ → List ℕ
    text i = moment_text start.plan start.script nodes (first + i)
        (played_at start.plan start.script (first + i))

    pub text_is : (t : ℕ) (r : Running NoOverlay) → IsAt start t r → first ≤ t
        → moment_text r.plan r.script nodes r.at r.states ≡ text (t - first)
    text_is t r here from =
        let at : r.at ≡ first + (t - first) = omega (arith, here.at, from) in
        ap (moment_text r.plan r.script nodes r.at) (bare_is_played r here.plays)
        ∙ (ap₂ (λ (p : Plan) (s : Script). moment_text p s nodes r.at (played_at p s r.at))
        here.plan here.script
        ∙ ap (λ (n : ℕ). moment_text start.plan start.script nodes n
        (played_at start.plan start.script n)) at)
