-- The nested counter of accepted levels settles, by induction over the levels.
use Rattle.std.proofs.Common.{◌≡◌, ℕ, ◌<◌, ◌≤◌, List, [], ◌∷◌, IfSome, None, sym, subst}
use Rattle.sync_types.specs.States.{State, register_at}
use Rattle.construction.specs.Plans.{Level, group_size, nodes_of, faults_of, modulus_of}
use Rattle.plan_numbers.specs.Numbers.{below_of}
use Rattle.plan_numbers.specs.Premises.{LevelsAccepted, first_premise}
use Rattle.plan_numbers.proofs.Accepted.{accepted_sized, meets}
use Rattle.counter_core.specs.Meanings.{Meaning}
use Rattle.counter_core.specs.RunsByPlace.{SettlesByPlace}
use Rattle.counter_core.specs.Laws.{Sizes}
use Rattle.counter_core.specs.Trivial.{one_node, IsBelow}
use Rattle.counter_core.specs.TrivialLaws.{one_node_sizes, one_node_settles}
use Rattle.counter_core.proofs.ListsAndPlaces.{settles_by_place}
use Rattle.plan_laws.specs.Level.{LevelPremises}
use Rattle.plan_laws.specs.Boosted.{StandsOn}
use Rattle.plan_laws.proofs.BoostLaws.{boosted_sizes}
use Rattle.plan_laws.proofs.BoostSettles.{boosted_settles_by_place}
use Rattle.plan_laws.specs.PlanMeaning.{InRange}
use Rattle.plan_laws.specs.Nested.{meaning_of, NestedRange}
use Rattle.plan_laws.proofs.Explained.{Explains, explains}

-- an accepted level may stand on the nested counter of those below
stands_over : (m : Meaning) (base : ℕ) (level : Level) (below : List Level) → Explains m base below
    → first_premise (below_of base below) level ≡ None → StandsOn m level
stands_over m base level below e none =
    let met = meets (below_of base below) level none in
    let stands : LevelPremises level (nodes_of below) (faults_of below) (modulus_of base below) =
    record {
      blocks = met.blocks;
      quorum = met.quorum;
      share = met.share;
      multiple = met.multiple;
    } in
    record {
      stands = subst (λ n. LevelPremises level n m.faults m.modulus) (sym e.nodes)
          (subst (λ f. LevelPremises level (nodes_of below) f m.modulus) (sym e.faults)
          (subst (λ c. LevelPremises level (nodes_of below) (faults_of below) c) (sym e.modulus)
          stands));
      most_nodes = subst (λ n. group_size level n ≤ 256) (sym e.nodes) met.most_nodes;
      least_modulus = met.modulus;
      most_modulus = met.most_modulus;
    }

pub stands_on : (base : ℕ) (level : Level) (below : List Level)
    → LevelsAccepted base (level ∷ below) → StandsOn (meaning_of base below) level
stands_on base level below (accepted, none) =
    stands_over (meaning_of base below) base level below (explains base below) none

pub nested_sizes : (base : ℕ) (levels : List Level) → LevelsAccepted base levels
    → Sizes (meaning_of base levels) (NestedRange base levels)
nested_sizes base [] accepted = let sized =
    accepted_sized base [] accepted in one_node_sizes base sized.least_modulus sized.most_modulus
nested_sizes base (level ∷ below) (accepted, none) =
    boosted_sizes (meaning_of base below) (NestedRange base below) level
    (nested_sizes base below accepted) (stands_on base level below (accepted, none))

pub nested_settles : (base : ℕ) (levels : List Level) → LevelsAccepted base levels
    → SettlesByPlace (meaning_of base levels) (NestedRange base levels)
nested_settles base [] accepted =
    settles_by_place (one_node base) (IsBelow base) (one_node_settles base)
nested_settles base (level ∷ below) (accepted, none) =
    boosted_settles_by_place (meaning_of base below) (NestedRange base below) level
    (nested_sizes base below accepted) (stands_on base level below (accepted, none))
    (nested_settles base below accepted)

-- what is in range of the plan is in range of the nested counter
pub nested_range : (base : ℕ) (levels : List Level) (s : State) → s.x < base → InRange levels s
    → NestedRange base levels s
nested_range base [] s x range = x
nested_range base (level ∷ below) s x range =
    let e = explains base below in (
      nested_range base below s x range.0,
      subst (λ d. IfSome (register_at d s).a (λ a. a < level.modulus)) (sym e.depth) range.1,
    )
