use Rattle.std.proofs.Common.{◌<◌, ℕ, length, replicate, All, sym, ap, subst, arith}
use Rattle.std.proofs.lemmas.List.{get_or-replicate, length-replicate}
use Rattle.sync_types.specs.States.{zero_state}
use Rattle.construction.specs.Plans.{Plan}
use Rattle.plan_laws.specs.PlanMeaning.{IsInRange}
use Rattle.plan_laws.proofs.PlanCounter.{plan_zero}
use Rattle.state_codec.specs.Packs.{Pack}
use Rattle.try_counters.proofs.tower_calls.zero_states.Goals as goal

pub returns-clause-range : goal.returns-clause-range
returns-clause-range c =
    let plan : Plan = c.args.plan.now in
    let n : ℕ = c.nodes.result in
    let d : ℕ = c.in_ok-shape.shape.depth in
    let zero : IsInRange plan (zero_state d) =
    subst (λ d. IsInRange plan (zero_state d)) (sym c.in_ok-shape.ensures.depth)
    (plan_zero plan c.facts.ensures.accepted) in
    let each : All (IsInRange plan) (replicate n (zero_state d)) = λ i none lt.
    let within : i < n = omega (arith, lt, length-replicate n (zero_state d)) in
    subst (IsInRange plan) (sym (get_or-replicate n i (zero_state d) none within)) zero in
    subst (All (IsInRange plan)) (sym (ap (λ (p : Pack). p.current) c.in_ok-config.ensures)) each
