-- Runs of an accepted plan lock if they are explained, and the bound is explained.
use Rattle.std.proofs.Common.{◌≡◌, ℕ, ◌+◌, ◌-◌, ◌%◌, List, ◌∷◌, length, sym, subst, subst₂, arith}
use Rattle.std.proofs.Math.Path.{fun_ext}
use Rattle.sync_types.specs.States.{State, register_at}
use Rattle.construction.specs.Plans.{Level, Plan, group_size, nodes_of, faults_of, bound_of}
use Rattle.construction.specs.Plans.{span_of}
use Rattle.construction.specs.Steps.{state_of}
use Rattle.construction.specs.Runs.{is_in, configuration}
use Rattle.phase_king.specs.Hearing.{AllLocked}
use Rattle.plan_numbers.specs.Numbers.{with_level}
use Rattle.plan_laws.specs.Explained.{Explains, IsExplained}
use Rattle.plan_laws.proofs.BoostSettles.{top_explained_locks, top_is_explained}
use Rattle.plan_laws.specs.Nested.{meaning_of, NestedRange}
use Rattle.plan_laws.specs.ExplainedRuns.{inner_in, ExplainedRunsLock, BoundIsExplained}
use Rattle.plan_laws.proofs.Explained.{explains}
use Rattle.plan_laws.proofs.NestedSettles.{stands_on, nested_sizes, nested_settles}
use Rattle.plan_laws.proofs.PlanRuns.{counter_run, nested_run}
use Rattle.plan_laws.proofs.RunLaws.{few_places}

-- the inner outputs are what the nested counter below shows
same_outputs : (plan : Plan) (run : List (List State))
    → (λ t u. (meaning_of plan.base plan.levels).shows
    (u % (meaning_of plan.base plan.levels).nodes) (state_of (configuration run t) u))
    ≡ inner_in plan run
same_outputs plan run =
    let m = meaning_of plan.base plan.levels in
    let e = explains plan.base plan.levels in
    fun_ext (λ t. fun_ext (λ u. e.shows (u % m.nodes) (state_of (configuration run t) u)))

pub explained_runs_lock : ExplainedRunsLock
explained_runs_lock below level accepted faulty run borne is t b s k why =
    let plan : Plan = with_level below level in
    let base : ℕ = below.base in
    let levels : List Level = below.levels in
    let m = meaning_of base levels in
    let e = explains base levels in
    let top = explains base (level ∷ levels) in
    let some = is.some in
    let nested = nested_run plan accepted faulty run some
    (counter_run plan accepted faulty run is) in
    let few = few_places (meaning_of base (level ∷ levels)) base (level ∷ levels) top faulty
    borne.few in
    let why' : Explains level m.nodes m.faults (is_in faulty) (length run - 1)
    (λ t u. m.shows (u % m.nodes) (state_of (configuration run t) u)) t b s k =
    subst₂ (λ n f. Explains level n f (is_in faulty) (length run - 1)
    (λ t u. m.shows (u % m.nodes) (state_of (configuration run t) u)) t b s k) (sym e.nodes)
    (sym e.faults)
    (subst (λ outputs. Explains level (nodes_of levels) (faults_of levels) (is_in faulty)
    (length run - 1) outputs t b s k) (sym (same_outputs below run)) why) in
    let z = top_explained_locks m (NestedRange base levels) level
    (nested_sizes base levels accepted.levels.0) (is_in faulty) (length run - 1)
    (λ t v. state_of (configuration run t) v) nested
    (stands_on base level levels accepted.levels) few t b s k why' in
    record {
      value = z.0;
      each = subst₂ (λ n d. AllLocked (group_size level n) (is_in faulty)
          (λ v. register_at d (state_of (configuration run (s + 3)) v)) z.0) e.nodes e.depth z.1;
    }

pub bound_is_explained : BoundIsExplained
bound_is_explained below level accepted faulty run borne is long =
    let plan : Plan = with_level below level in
    let base : ℕ = below.base in
    let levels : List Level = below.levels in
    let m = meaning_of base levels in
    let e = explains base levels in
    let top = explains base (level ∷ levels) in
    let some = is.some in
    let nested = nested_run plan accepted faulty run some
    (counter_run plan accepted faulty run is) in
    let few = few_places (meaning_of base (level ∷ levels)) base (level ∷ levels) top faulty
    borne.few in
    let bound = e.bound in
    let why = top_is_explained m (NestedRange base levels) level
    (nested_sizes base levels accepted.levels.0) (is_in faulty) (length run - 1)
    (λ t v. state_of (configuration run t) v) nested
    (stands_on base level levels accepted.levels)
    (nested_settles base levels accepted.levels.0) few (omega (arith, bound, long, some)) in
    subst (λ outputs. IsExplained level (nodes_of levels) (faults_of levels) (is_in faulty)
    (length run - 1) outputs (bound_of levels) (bound_of (level ∷ levels)))
    (same_outputs below run)
    (subst (λ from. IsExplained level (nodes_of levels) (faults_of levels) (is_in faulty)
    (length run - 1) (λ t u. m.shows (u % m.nodes) (state_of (configuration run t) u)) from
    (from + span_of level)) bound
    (subst₂ (λ n f. IsExplained level n f (is_in faulty) (length run - 1)
    (λ t u. m.shows (u % m.nodes) (state_of (configuration run t) u)) m.bound
    (m.bound + span_of level)) e.nodes e.faults why))
