-- How many nodes faults take, and how many faults nodes tolerate.
use Rattle.std.proofs.Common.{◌≡◌, ℕ, zero, suc, ◌+◌, ◌-◌, ◌*◌, ◌/◌, ◌<◌, ◌≤◌, List, [], ◌∷◌}
use Rattle.std.proofs.Common.{sym, subst, arith}
use Rattle.std.specs.Prelude.{Option, Some, None, Bool, MatchBool, is_some}
use Rattle.std.specs.List.{Any}
use Rattle.std.proofs.lemmas.List.Elements.{All-head}
use Rattle.construction.specs.Plans.{Plan}
use Rattle.plan_finder.specs.declared.wants.Want.{Want}
use Rattle.plan_finder.specs.FindPart.{IsFit}
use Rattle.choose.specs.declared.any_plans.AnyPlan.{AnyPlan}
use Rattle.choose.specs.declared.any_plans.AnyPlan.TheVariants.{Boosting, Halving}
use Rattle.choose.specs.declared.requests.Scope.{Scope}
use Rattle.choose.specs.declared.requests.Scope.TheVariants as scope
use Rattle.choose.specs.Compared.{fewest}
use Rattle.choose.specs.Fronts as boosting
use Rattle.choose.specs.Fronts.{Bears, Serves, IsFront}
use Rattle.choose.specs.FrontsOfBoth as both
use Rattle.choose.specs.FrontsOfBoth.{Tolerates, Suits, IsFrontOf}
use Rattle.choose.specs.Least.{IsLeast, IsLeastOf}
use Rattle.choose.specs.Shortages.{IsIn, CanTolerate, IsShort, IsTold, ModulusDecidesNothing}
use Rattle.choose.proofs.Both.{boosting_bears, more_nodes, fewest_accepted}
use Rattle.choose.proofs.Least.{lone_least}
use Rattle.choose.proofs.Lower.{plan_of}

-- ---- plans of either construction

-- with more nodes, or of fewer faults
pub weaker : (scope : Scope) (n m f g : ℕ) → n ≤ m → g ≤ f → CanTolerate scope n f
    → CanTolerate scope m g
weaker scope n m f g more fewer (plan, within, tolerates) = (
  plan,
  within,
  record {
    accepted = tolerates.accepted;
    nodes = omega (arith, more, tolerates.nodes);
    faults = omega (arith, fewer, tolerates.faults);
  },
)

pub quorum : (scope : Scope) (n f : ℕ) → CanTolerate scope n f → 3 * f < n
quorum scope n f (plan, within, tolerates) =
    omega (arith, more_nodes n f plan tolerates, tolerates.nodes)

-- ---- plans of the boosting construction

boosting_tolerates : (n f : ℕ) (plan : Plan) → Bears n f plan → Tolerates n f (Boosting plan)
boosting_tolerates n f plan bears = record {
  accepted = bears.accepted;
  nodes = bears.nodes;
  faults = bears.faults;
}

boosting_can : (n f : ℕ) (plan : Plan) → Bears n f plan → CanTolerate scope.Boosting n f
boosting_can n f plan bears = (Boosting plan, tt, boosting_tolerates n f plan bears)

none_by : (n f : ℕ) → ((plan : Plan) → ¬ Bears n f plan) → (plan : AnyPlan)
    → IsIn scope.Boosting plan → ¬ Tolerates n f plan
none_by n f none (Boosting plan) within tolerates = none plan (boosting_bears n f plan tolerates)
none_by n f none (Halving plan) within tolerates = within

boosting_cannot : (n f : ℕ) → ((plan : Plan) → ¬ Bears n f plan)
    → ¬ CanTolerate scope.Boosting n f
boosting_cannot n f none (plan, within, tolerates) = none_by n f none plan within tolerates

-- whether a search finds one
pub can_by : (n f : ℕ) (found : Option Plan) (there : Bool) → there ≡ is_some found
    → IsLeastOf 2 (Bears n f) found
    → MatchBool there (CanTolerate scope.Boosting n f) (CanTolerate scope.Boosting n f → ⊥)
can_by n f (Some plan) there is least =
    let it : IsLeast 2 (Bears n f) plan = least in
    subst (λ b. MatchBool b (CanTolerate scope.Boosting n f) (CanTolerate scope.Boosting n f → ⊥))
    (sym is) (boosting_can n f plan it.member)
can_by n f None there is least =
    subst (λ b. MatchBool b (CanTolerate scope.Boosting n f) (CanTolerate scope.Boosting n f → ⊥))
    (sym is) (boosting_cannot n f least)

-- one node tolerates no fault
pub lone_can : (n : ℕ) → 1 ≤ n → CanTolerate scope.Boosting n 0
lone_can n some =
    boosting_can n 0 (plan_of 2 2 []) (lone_least n 2 some (omega arith) (omega arith)).member

-- ---- plans of both

can_both : (n f : ℕ) → n ≤ 256 → 3 * f < n → CanTolerate scope.Both n f
can_both n zero few room = (
  Boosting (plan_of 2 2 []),
  tt,
  boosting_tolerates n 0 (plan_of 2 2 [])
      (lone_least n 2 (omega (arith, room)) (omega arith) (omega arith)).member,
)
can_both n (suc f) few room = (
  Halving (fewest (suc f) 2),
  tt,
  record {
    accepted = fewest_accepted (suc f) 2 (omega arith) (omega (arith, few, room)) (omega arith)
        (omega arith);
    nodes = omega (arith, room);
    faults = omega arith;
  },
)

pub both_can : (want : Want) → IsFit want → 3 * want.faults < want.most
    → CanTolerate scope.Both want.most want.faults
both_can want fit room = can_both want.most want.faults fit.most room

pub both_short : (want : Want) → IsFit want → want.most ≤ 3 * want.faults
    → IsShort scope.Both want
    (record { nodes = Some (3 * want.faults + 1); faults = (want.most - 1) / 3 })
both_short want fit small = record {
  none = λ can. absurd (omega (arith, small, quorum scope.Both want.most want.faults can));
  nodes = (
    can_both (3 * want.faults + 1) want.faults (omega (arith, fit.faults)) (omega arith),
    λ m can. omega (arith, quorum scope.Both m want.faults can),
  );
  faults = (
    can_both want.most ((want.most - 1) / 3) fit.most (omega (arith, fit.some)),
    λ g can. omega (arith, quorum scope.Both want.most g can),
  );
}

-- ---- fronts

none_of_none : {X : Type 0} (P : X → Type 0) → ¬ Any P []
none_of_none P (k, x, lt, at, is) = absurd (omega (arith, lt))

front_tells : (f c most : ℕ) (plans : List Plan) → IsFront f c most plans
    → IsTold scope.Boosting most f plans
front_tells f c most [] front = boosting_cannot most f
    (λ plan bears. none_of_none (boosting.IsNoWorse plan) (front.best plan bears))
front_tells f c most (plan ∷ rest) front =
    boosting_can most f plan (All-head (Serves f c most) plan rest front.serve).bears

both_cannot : (f c most : ℕ) → IsFrontOf f c most [] → ¬ CanTolerate scope.Both most f
both_cannot f c most front (plan, within, tolerates) =
    none_of_none (both.IsNoWorse plan) (front.best plan tolerates)

front_of_both_tells : (f c most : ℕ) (plans : List AnyPlan) → IsFrontOf f c most plans
    → IsTold scope.Both most f plans
front_of_both_tells f c most [] front = both_cannot f c most front
front_of_both_tells f c most (plan ∷ rest) front =
    (plan, tt, (All-head (Suits f c most) plan rest front.suit).tolerates)

pub modulus_decides_nothing : ModulusDecidesNothing
modulus_decides_nothing f c most = (front_tells f c most, front_of_both_tells f c most)
