-- What was found is the least plan, and its costs are potentials.
use Rattle.std.proofs.Common.{◌≡◌, ℕ, ◌+◌, ◌*◌, ◌≤◌, List, [], ◌∷◌, refl, sym, ap, ◌∙◌, subst, inl}
use Rattle.std.proofs.Common.{inr, arith}
use Rattle.std.specs.Prelude.{Option, Some, None}
use Rattle.std.specs.List.{Contains}
use Rattle.std.proofs.lemmas.Bool.{cases_lt}
use Rattle.std.proofs.lemmas.List.Elements.{All-weaker, All-contains}
use Rattle.construction.specs.Plans.{Level, Plan, nodes_of, faults_of, bound_of}
use Rattle.plan_finder.specs.declared.pots.Pot.{Pot}
use Rattle.plan_finder.specs.declared.best.Best.{Best}
use Rattle.plan_finder.specs.Steps.{IsPath, IsStep, cost_of}
use Rattle.plan_finder.specs.Costs.{Reaches, IsLeastCost, AreLeastCosts}
use Rattle.plan_finder.specs.Potentials.{ArePotentials, IsKnown, IsAtMost, StepsAreKnown}
use Rattle.plan_finder.specs.Potentials.{KeepsBound, bound_in}
use Rattle.plan_finder.specs.Wanted.{IsPlanFor}
use Rattle.plan_finder.specs.Building.{IsBuilt}
use Rattle.plan_finder.specs.Best.{levels_in, IsBestOf, HasFaults}
use Rattle.plan_finder.proofs.Paths.{plan_path}
use Rattle.plan_finder.proofs.Sets.{path_few}
use Rattle.plan_finder.proofs.Moduli.{least_plan, bound_counting}

-- ---- the plan

pub plan_for : (f c most : ℕ) (best : Option Best) (plan : Option Plan)
    → IsBestOf (HasFaults most f (most + 1)) best
    → IsBuilt c best plan → IsPlanFor f c most plan
plan_for f c most None plan none built =
    subst (IsPlanFor f c most) (sym built)
    (λ other meets. none other.levels (record {
      path = plan_path most other meets.accepted meets.version meets.nodes;
      faults = meets.faults;
      nodes = omega (arith, meets.nodes);
    }))
plan_for f c most (Some best) plan is (same, accepted) =
    subst (IsPlanFor f c most) (sym same)
    (least_plan c most f (levels_in best) is.member.path is.member.faults
    (omega (arith, is.member.nodes)) accepted
    (λ other path faults few less. is.least other
    (record { path = path; faults = faults; nodes = omega (arith, few) }) less))

-- ---- the costs

module _ (most : ℕ) (some : 1 ≤ most) (pots : List Pot) (are : AreLeastCosts most pots) where
  -- the pair that levels reach is there with at most their cost
  known_path : (levels : List Level) → IsPath most levels
      → IsKnown pots (nodes_of levels) (faults_of levels) (bound_of levels)
  known_path levels path =
      let there = are.complete levels path in
      let pot : Pot = record
      { nodes = nodes_of levels; faults = faults_of levels; value = there.0 } in
      let least : IsLeastCost most pot = All-contains (IsLeastCost most) pots pot are.costs
      there.1 in (
        there.1.0,
        pot,
        there.1.1,
        there.1.2,
        record {
          nodes = refl;
          faults = refl;
          most = least.least levels (record { path = path; nodes = refl; faults = refl });
        },
      )

  step_known : (pot : Pot) → IsLeastCost most pot → StepsAreKnown most pots pot
  step_known pot least k g step =
      let levels : List Level = least.reached.0 in
      let reaches : Reaches most pot.nodes pot.faults levels = least.reached.1 in
      let top : Level = record { blocks = k; faults = g; modulus = 0; spares = 0 } in
      let moved : IsStep most (nodes_of levels) (faults_of levels) k g =
      subst (λ n. IsStep most n (faults_of levels) k g) (sym reaches.nodes)
      (subst (λ f. IsStep most pot.nodes f k g) (sym reaches.faults) step) in
      let known = known_path (top ∷ levels) (reaches.path, refl, moved) in
      let at : IsAtMost (k * nodes_of levels + 0) g (bound_of levels + cost_of k g) known.1 =
      known.4 in (
        known.0,
        known.1,
        known.2,
        known.3,
        record {
          nodes = omega (arith, at.nodes, ap (λ n. k * n) reaches.nodes);
          faults = at.faults;
          most = omega (arith, at.most, least.reached.2);
        },
      )

  start_known : Contains pots (record { nodes = 1; faults = 0; value = 0 })
  start_known =
      let there = are.complete [] tt in
      let pot : Pot = record { nodes = 1; faults = 0; value = there.0 } in
      let least : IsLeastCost most pot = All-contains (IsLeastCost most) pots pot are.costs
      there.1 in
      let none : there.0 ≤ 0 = least.least [] (record { path = tt; nodes = refl; faults = refl }) in
      let zero_value : there.0 ≡ 0 = omega (arith, none) in
      subst (λ v. Contains pots (record { nodes = 1; faults = 0; value = v })) zero_value there.1

  keeps : (f c : ℕ) (best : Option Best) (plan : Option Plan)
      → IsBestOf (HasFaults most f (most + 1)) best
      → IsBuilt c best plan → (pot : Pot) → IsLeastCost most pot → KeepsBound f (bound_in plan) pot
  keeps f c None plan none built pot least =
      let levels : List Level = least.reached.0 in
      let reaches : Reaches most pot.nodes pot.faults levels = least.reached.1 in
      subst (λ p. KeepsBound f (bound_in p) pot) (sym built)
      (λ same. none levels
      (record {
        path = reaches.path;
        faults = reaches.faults
            ∙ same;
        nodes = omega (arith, path_few most levels some reaches.path);
      }))
  keeps f c (Some best) plan is (same, accepted) pot least =
      let levels : List Level = least.reached.0 in
      let reaches : Reaches most pot.nodes pot.faults levels = least.reached.1 in
      subst (λ p. KeepsBound f (bound_in p) pot) (sym same)
      (λ faults. elim (cases_lt (bound_of levels) (bound_of (levels_in best))) [
        | inl lt ↦ absurd
            (is.least levels
            (record {
              path = reaches.path;
              faults = reaches.faults
                  ∙ faults;
              nodes = omega (arith, path_few most levels some reaches.path);
            })
            (inl lt))
        | inr le ↦ omega (arith, le, bound_counting c (levels_in best), least.reached.2)
      ])

  pub costs_pass : (f c : ℕ) (best : Option Best) (plan : Option Plan)
      → IsBestOf (HasFaults most f (most + 1)) best
      → IsBuilt c best plan → ArePotentials f most (bound_in plan) pots
  costs_pass f c best plan is built = record {
    rising = are.rising;
    start = start_known;
    steps = All-weaker (IsLeastCost most) (StepsAreKnown most pots) step_known pots are.costs;
    values =
        All-weaker (IsLeastCost most) (KeepsBound f (bound_in plan)) (keeps f c best plan is built)
        pots are.costs;
  }
