-- Potentials are at most the cost of every path, and so bound every plan.
use Rattle.std.proofs.Common.{◌≡◌, ℕ, ◌+◌, ◌*◌, ◌≤◌, List, [], ◌∷◌, refl, sym, ap, ◌∙◌, subst}
use Rattle.std.proofs.Common.{arith}
use Rattle.std.specs.Prelude.{Option, Some, None}
use Rattle.std.proofs.lemmas.List.Elements.{All-contains}
use Rattle.construction.specs.Plans.{Level, nodes_of, faults_of, bound_of, plan_faults, plan_nodes}
use Rattle.construction.specs.Plans.{plan_bound}
use Rattle.plan_finder.specs.declared.pots.Pot.{Pot}
use Rattle.plan_finder.specs.Steps.{IsPath, IsStep, cost_of}
use Rattle.plan_finder.specs.Potentials.{IsAtMost, IsKnown, ArePotentials, StepsAreKnown}
use Rattle.plan_finder.specs.Potentials.{KeepsBound, IsBoundOf, PotentialsBound}
use Rattle.plan_finder.proofs.Paths.{plan_path}

module _ (f most : ℕ) (bound : Option ℕ) (pots : List Pot) (are : ArePotentials f most bound pots)
  where
    below_path : (levels : List Level) → IsPath most levels
        → IsKnown pots (nodes_of levels) (faults_of levels) (bound_of levels)
    below_path [] path =
        let start : Pot = record { nodes = 1; faults = 0; value = 0 } in (
          are.start.0,
          start,
          are.start.1,
          are.start.2,
          record { nodes = refl; faults = refl; most = omega arith },
        )
    below_path (level ∷ below) (path, spares, step) =
        let known = below_path below path in
        let pot : Pot = known.1 in
        let at : IsAtMost (nodes_of below) (faults_of below) (bound_of below) pot = known.4 in
        let moved : IsStep most pot.nodes pot.faults level.blocks level.faults =
        subst (λ n. IsStep most n pot.faults level.blocks level.faults) (sym at.nodes)
        (subst (λ f. IsStep most (nodes_of below) f level.blocks level.faults) (sym at.faults)
        step) in
        let next : IsKnown pots (level.blocks * pot.nodes) level.faults
        (pot.value + cost_of level.blocks level.faults) =
        All-contains (StepsAreKnown most pots) pots pot are.steps (known.0, known.2, known.3)
        level.blocks level.faults moved in
        let reached = next.4 in (
          next.0,
          next.1,
          next.2,
          next.3,
          record {
            nodes = omega (arith, reached.nodes, ap (λ n. level.blocks * n) at.nodes, spares);
            faults = reached.faults;
            most = omega (arith, reached.most, at.most);
          },
        )

bounds : (bound : Option ℕ) (f t : ℕ) (pot : Pot) → KeepsBound f bound pot → pot.faults ≡ f
    → pot.value ≤ t
    → IsBoundOf bound t
bounds (Some bound) f t pot keeps same le = let least = keeps same in omega (arith, least, le)
bounds None f t pot keeps same le = keeps same

pub potentials_bound : PotentialsBound
potentials_bound f most bound pots are plan accepted version faults few =
    let known = below_path f most bound pots are plan.levels
    (plan_path most plan accepted version few) in
    let at : IsAtMost (plan_nodes plan) (plan_faults plan) (plan_bound plan) known.1 = known.4 in
    bounds bound f (plan_bound plan) known.1
    (All-contains (KeepsBound f bound) pots known.1 are.values (known.0, known.2, known.3))
    (at.faults ∙ faults) at.most
