-- Accepted plans settle, their configuration at the bound is locked, and locked ones stay so.
use Rattle.std.proofs.Common.{◌≡◌, ◌⊎◌, ℕ, zero, suc, ◌+◌, ◌-◌, ◌%◌, ◌<◌, ◌≤◌, List, [], ◌∷◌}
use Rattle.std.proofs.Common.{length, unwrap_or, refl, sym, ap, ◌∙◌, subst₂, inl, inr, ⊎_elim}
use Rattle.std.proofs.Common.{arith}
use Rattle.sync_types.specs.declared.states.Reg.{Reg}
use Rattle.sync_types.specs.States.{State, register_at}
use Rattle.counting.specs.Places.{places}
use Rattle.construction.specs.Plans.{Level, Plan, group_size, nodes_of, faults_of, plan_bound}
use Rattle.construction.specs.PhaseKing.{up}
use Rattle.construction.specs.Steps.{state_of}
use Rattle.construction.specs.Runs.{is_in, configuration, Run, IsToleratedBy, IsLocked}
use Rattle.phase_king.specs.Hearing.{AllLocked}
use Rattle.plan_numbers.specs.Premises.{IsAccepted}
use Rattle.counter_core.specs.Meanings.{Meaning}
use Rattle.counter_core.specs.Runs.{Settles}
use Rattle.counter_core.specs.RunsByPlace.{CountsByPlace}
use Rattle.counter_core.proofs.ListsAndPlaces.{places_of_ids}
use Rattle.plan_laws.specs.Level.{StaysLocked}
use Rattle.plan_laws.proofs.BoostSettles.{top_settles, top_stays_locked}
use Rattle.plan_laws.specs.PlanMeaning.{plan_meaning, IsInRange}
use Rattle.plan_laws.specs.Nested.{meaning_of, NestedRange}
use Rattle.plan_laws.specs.Laws.{EveryPlanSettles, LocksAtBound, StaysLockedFrom, LockedRunsCount}
use Rattle.plan_laws.proofs.Explained.{Explains, explains}
use Rattle.plan_laws.proofs.NestedSettles.{stands_on, nested_sizes, nested_settles}
use Rattle.plan_laws.proofs.PlanRuns.{counter_run, nested_run}

-- the plan of these levels
abbrev plan_over : (version base : ℕ) → List Level → Plan
plan_over version base levels = record { version = version; base = base; levels = levels }

none_or_some : (n : ℕ) → (n ≡ 0) ⊎ (0 < n)
none_or_some zero = inl refl
none_or_some (suc n) = inr (omega arith)

-- faulty places of the nested counter are as few as the ids
pub few_places : (m : Meaning) (base : ℕ) (levels : List Level) → Explains m base levels
    → (faulty : List ℕ) → length faulty ≤ faults_of levels
    → places (is_in faulty) m.nodes ≤ m.faults
few_places m base levels e faulty few = omega (arith, places_of_ids faulty m.nodes, e.faults)

-- the counter of an accepted plan settles
pub plan_settles : (plan : Plan) → IsAccepted plan → Settles (plan_meaning plan) (IsInRange plan)
plan_settles plan accepted faulty run bears is = ⊎_elim
    (λ none. record {
      output = λ t. 0;
      shows = λ t v lo hi lt ok. absurd (omega arith);
      grows = λ t lo hi. absurd (omega arith);
    })
    (λ some.
    let e = explains plan.base plan.levels in
    let m = meaning_of plan.base plan.levels in
    let counts : CountsByPlace m (is_in faulty) (length run - 1)
    (λ t v. state_of (configuration run t) v) =
    nested_settles plan.base plan.levels accepted.levels (is_in faulty) (length run - 1)
    (λ t v. state_of (configuration run t) v)
    (few_places m plan.base plan.levels e faulty bears.few)
    (nested_run plan accepted faulty run some is) in
    record {
      output = counts.output;
      shows = λ t v lo hi vlt correct. sym (e.shows v (state_of (configuration run t) v))
          ∙ counts.shows t v (omega (arith, e.bound)) (omega arith) (omega (arith, e.nodes))
          correct;
      grows = λ t lo hi. counts.grows t (omega (arith, e.bound)) (omega arith)
          ∙ ap (λ c. (counts.output t + 1) % c) e.modulus;
    })
    (none_or_some (length run))

pub every_plan_settles : EveryPlanSettles
every_plan_settles plan accepted faulty run borne is =
    let counts =
    plan_settles plan accepted faulty run
    (record { rising = borne.rising; ids = borne.ids; few = borne.few })
    (counter_run plan accepted faulty run is) in
    record {
      output = counts.output;
      shows = λ t lo hi v vlt correct. counts.shows t v lo hi vlt correct;
      grows = counts.grows;
    }

-- what the top registers do from a configuration on, in the plan's words
top_words : (m : Meaning) (base : ℕ) (level : Level) (below : List Level) → Explains m base below
    → (faulty : List ℕ) (run : List (List State)) (from : ℕ)
    → StaysLocked (group_size level m.nodes) (up level.modulus) (is_in faulty) from (length run - 1)
    (λ t v. register_at m.depth (state_of (configuration run t) v))
    → StaysLocked (nodes_of (level ∷ below)) (up level.modulus) (is_in faulty) from (length run - 1)
    (λ t v. register_at (length below) (state_of (configuration run t) v))
top_words m base level below e faulty run from stays =
    subst₂ (λ n d.
    StaysLocked (group_size level n) (up level.modulus) (is_in faulty) from (length run - 1)
    (λ t v. register_at d (state_of (configuration run t) v))) e.nodes e.depth stays

locks : (version base : ℕ) (levels : List Level) → IsAccepted (plan_over version base levels)
    → (faulty : List ℕ) (run : List (List State))
    → IsToleratedBy (plan_over version base levels) faulty
    → Run (plan_over version base levels) faulty run
    → plan_bound (plan_over version base levels) < length run
    → IsLocked (plan_over version base levels) faulty
    (configuration run (plan_bound (plan_over version base levels)))
locks version base [] accepted faulty run borne is long = tt
locks version base (level ∷ below) accepted faulty run borne is long =
    let plan : Plan = plan_over version base (level ∷ below) in
    let m = meaning_of base below in
    let e = explains base below in
    let top = explains base (level ∷ below) in
    let nested =
    nested_run plan accepted faulty run (omega arith)
    (counter_run plan accepted faulty run is) in
    let few =
    few_places (meaning_of base (level ∷ below)) base (level ∷ below) top faulty borne.few in
    let stays =
    top_settles m (NestedRange base below) level (nested_sizes base below accepted.levels.0)
    (is_in faulty) (length run - 1) (λ t v. state_of (configuration run t) v) nested
    (stands_on base level below accepted.levels) (nested_settles base below accepted.levels.0)
    few in
    let here =
    top_words m base level below e faulty run (meaning_of base (level ∷ below)).bound stays in
    record {
      value = here.value (plan_bound plan);
      each = here.locked (plan_bound plan) (omega (arith, top.bound)) (omega arith);
    }

pub locks_at_bound : LocksAtBound
locks_at_bound plan accepted faulty run borne is long =
    locks plan.version plan.base plan.levels accepted faulty run borne is long

stays_from : (version base : ℕ) (levels : List Level) → IsAccepted (plan_over version base levels)
    → (faulty : List ℕ) (run : List (List State))
    → IsToleratedBy (plan_over version base levels) faulty
    → Run (plan_over version base levels) faulty run
    → (from : ℕ) → from < length run
    → IsLocked (plan_over version base levels) faulty (configuration run from)
    → StaysLockedFrom (plan_over version base levels) faulty run from
stays_from version base [] accepted faulty run borne is from lt locked =
    let counts = every_plan_settles (plan_over version base []) accepted faulty run borne is in
    record {
      locked = λ t lo hi. tt;
      counts = record {
        output = counts.output;
        shows = λ t lo hi. counts.shows t (omega arith) hi;
        grows = λ t lo hi. counts.grows t (omega arith) hi;
      };
    }
stays_from version base (level ∷ below) accepted faulty run borne is from lt locked =
    let plan : Plan = plan_over version base (level ∷ below) in
    let m = meaning_of base below in
    let e = explains base below in
    let top = explains base (level ∷ below) in
    let nested =
    nested_run plan accepted faulty run (omega arith)
    (counter_run plan accepted faulty run is) in
    let few =
    few_places (meaning_of base (level ∷ below)) base (level ∷ below) top faulty borne.few in
    let all : AllLocked (group_size level m.nodes) (is_in faulty)
    (λ v. register_at m.depth (state_of (configuration run from) v)) locked.value =
    subst₂ (λ n d.
    AllLocked (group_size level n) (is_in faulty)
    (λ v. register_at d (state_of (configuration run from) v)) locked.value) (sym e.nodes)
    (sym e.depth) locked.each in
    let stays = top_words m base level below e faulty run from
    (top_stays_locked m (NestedRange base below) level (nested_sizes base below accepted.levels.0)
    (is_in faulty) (length run - 1) (λ t v. state_of (configuration run t) v) nested
    (stands_on base level below accepted.levels) few from locked.value all) in
    record {
      locked = λ t lo hi. record { value = stays.value t; each = stays.locked t lo (omega arith) };
      counts = record {
        output = stays.value;
        shows = λ t lo hi v vlt correct.
            ap (λ (r : Reg). unwrap_or r.a 0) (stays.locked t lo (omega arith) v vlt correct);
        grows = λ t lo hi. stays.grows t lo (omega arith);
      };
    }

pub locked_runs_count : LockedRunsCount
locked_runs_count plan accepted faulty run borne is from lt locked =
    stays_from plan.version plan.base plan.levels accepted faulty run borne is from lt locked
