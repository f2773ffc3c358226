-- The configurations of which lines are written while a runner plays.
use Rattle.std.proofs.Common.{◌≡◌, ℕ, ◌+◌, ◌-◌, ◌<◌, ◌≤◌, List, All, sym}
use Rattle.std.proofs.Common.{ap, ◌∙◌, subst, arith}
use Rattle.machine_runner.specs.Runners.{Running, next, states_of}
use Rattle.halving_plan.specs.Laws.{machine_in}
use Rattle.halving_plan.specs.Plans.{HalvingNumbers}
use Rattle.trace.specs.declared.halving_desks.HalvingBuffers.{HalvingBuffers}
use Rattle.trace.specs.HalvingDesks.{IsDeskFor, runner_at}
use Rattle.trace.specs.HalvingTraceTexts.{moment_text}

module _ (start : Running HalvingNumbers) where
  module _ (t : ℕ) (r : Running HalvingNumbers) (here : r ≡ runner_at start t) where
    pub has_round : t < start.script.rounds → r.at < r.script.rounds
    has_round lt =
        let rounds = ap (λ (q : Running HalvingNumbers). q.script.rounds) here in
        let at = ap (λ (q : Running HalvingNumbers). q.at) here in
        omega (arith, lt, rounds, at)

    pub at_more : (new : Running HalvingNumbers) → new ≡ next r → new ≡ runner_at start (t + 1)
    at_more new step = step ∙ ap (λ (q : Running HalvingNumbers). next q) here

    pub desk_here : (desk : HalvingBuffers) → IsDeskFor start.script desk → IsDeskFor r.script desk
    desk_here desk fit =
        subst (λ (q : Running HalvingNumbers). IsDeskFor q.script desk) (sym here) fit

    pub desk_back : (desk : HalvingBuffers) → IsDeskFor r.script desk → IsDeskFor start.script desk
    desk_back desk fit = subst (λ (q : Running HalvingNumbers). IsDeskFor q.script desk) here fit

    pub nodes_here : (nodes : List ℕ) → All (λ v. v < start.machine.nodes) nodes
        → All (λ v. v < r.machine.nodes) nodes
    nodes_here nodes all =
        subst (λ (q : Running HalvingNumbers). All (λ v. v < q.machine.nodes) nodes) (sym here) all

  module _ (nodes : List ℕ) (first : ℕ) where
    -- the lines of a runner's configuration
    abbrev pub text_of : Running HalvingNumbers → List ℕ
    text_of r = moment_text r.machine r.script nodes r.at (states_of machine_in r)

    abbrev pub text : ℕ → List ℕ
    text i = text_of (runner_at start (first + i))

    pub text_is : (t : ℕ) (r : Running HalvingNumbers) → r ≡ runner_at start t → first ≤ t
        → text_of r ≡ text (t - first)
    text_is t r here from =
        let at : t ≡ first + (t - first) = omega (arith, from) in
        ap text_of here ∙ ap (λ (n : ℕ). text_of (runner_at start n)) at
