-- Each era of what is played is a run of the plan.
use Rattle.std.proofs.Common.{◌≡◌, ℕ, zero, suc, ◌+◌, ◌-◌, ◌<◌, ◌≤◌, List, [], length, map}
use Rattle.std.proofs.Common.{None, unwrap_or, add-one, refl, sym, ap, ◌∙◌, subst, arith}
use Rattle.std.specs.List.{range_with_len}
use Rattle.std.proofs.lemmas.List.FromFn.{length-map-range_with_len, get_or-map-range_with_len}
use Rattle.sync_types.specs.States.{State, zero_state}
use Rattle.construction.specs.Plans.{Plan, plan_nodes, plan_bound, plan_modulus}
use Rattle.construction.specs.Steps.{state_of, step_of}
use Rattle.construction.specs.Runs.{IsState, IsConfiguration, IsTold, IsTable, Round, IsNext, Run}
use Rattle.construction.specs.Runs.{heard_by, IsToleratedBy, AllShow, IsLocked, CountsFrom}
use Rattle.construction.proofs.Ranges.{step_is_state}
use Rattle.plan_laws.proofs.PlanCounter.{positive}
use Rattle.plan_laws.specs.Laws.{EveryPlanSettles, LocksAtBound, LockedRunsCount}
use Rattle.state_codec.specs.Shapes.{Shape, IsShape, fields_at}
use Rattle.state_codec.specs.Ranges.{InRange}
use Rattle.state_codec.proofs.Plans.{shape_of_accepted}
use Rattle.state_codec.proofs.PlanStates.{in_range_of_node, state_of_node}
use Rattle.adversary_script.specs.Scripts.{Script}
use Rattle.adversary_script.specs.Eras.{first_of_era, end_of_era, faulty_of_era, faulty_at}
use Rattle.adversary_script.specs.Lookup.{hit_at}
use Rattle.adversary_script.specs.Lies.{AreStates, start_of, lie_of}
use Rattle.adversary_script.proofs.LiesInRange.{starts_in_range, lies_in_range}
use Rattle.round_runner.specs.Laws.{IsReadFor, EraCountsFrom, EraStaysLocked, ErasAreRuns, ErasLock}
use Rattle.round_runner.specs.Laws.{ErasCount, ErasStayLocked}
use Rattle.round_runner.specs.Locks.{era_locked}
use Rattle.round_runner.specs.Played.{lies_at, heard_at, after_round, played_at, era_run}
use Rattle.round_runner.proofs.FirstLocked.{passes}
use Rattle.machine_runner.proofs.Eras.{era_long, neighbours, of_each_era, same_faulty, to_played}
use Rattle.machine_runner.proofs.Eras.{from_played, counts_played}
use Rattle.machine_runner.proofs.FirstPassing.{first_locked_below}
use Rattle.machine_runner.proofs.Firsts.{in_era, none_inside, none_hit, era_some, end_within}
use Rattle.machine_runner.proofs.Hits.{hit_has, put_has}
use Rattle.counter_core.proofs.StateLists.{each_below}
use Rattle.machine_runner.proofs.Places.{placed}

module _ (plan : Plan) (s : Script) (is : IsReadFor plan s) where
  pub sound : IsShape s.shape
  sound = subst IsShape (sym is.right.states) (shape_of_accepted plan is.accepted)

  -- a state of a node's fields is one of the plan's node, and conversely
  state_is : (v : ℕ) → v < s.nodes → (x : State) → InRange (fields_at s.shape v) x
      → IsState plan v x
  state_is v lt x range = state_of_node plan is.accepted v (let n = is.right.nodes in omega arith) x
      (subst (λ (shape : Shape). InRange (fields_at shape v) x) is.right.states range)

  pub in_range : (v : ℕ) → v < s.nodes → (x : State) → IsState plan v x
      → InRange (fields_at s.shape v) x
  in_range v lt x state = subst (λ (shape : Shape). InRange (fields_at shape v) x)
      (sym is.right.states)
      (in_range_of_node plan is.accepted v (let n = is.right.nodes in omega arith) x state)

  -- states that are made node by node are a configuration
  configuration_of : (f : ℕ → State) → ((v : ℕ) → v < s.nodes → IsState plan v (f v))
      → IsConfiguration plan (map f (range_with_len 0 s.nodes))
  configuration_of f states = record {
    size = length-map-range_with_len f 0 s.nodes ∙ is.right.nodes;
    states = λ v lt. placed (IsState plan) f s.nodes states v
        (let n = is.right.nodes in omega arith);
  }

  steps_are : (t : ℕ) (config : List State) → IsConfiguration plan (after_round plan s t config)
  steps_are t config =
      let some = positive plan.base plan.levels is.accepted.levels in
      let step : ℕ → State = λ v. step_of plan v (heard_at s t config v) in
      configuration_of (λ v. unwrap_or (hit_at s (t + 1) v) (step v))
      (λ v lt. put_has (IsState plan v) (hit_at s (t + 1) v) (step v)
      (hit_has s is.whole (IsState plan v) (t + 1) v (state_is v lt))
      (step_is_state plan some.0 some.1 v (heard_at s t config v)))

  lies_are : (t : ℕ) (config : List State) → IsConfiguration plan config
      → IsTable plan (lies_at s t config)
  lies_are t config states =
      let range : AreStates s.nodes s.shape config =
      λ v lt. in_range v lt _ (states.states v (let n = is.right.nodes in omega arith)) in
      let row : ℕ → List State = λ u. map (λ v. lie_of s t u v config) (range_with_len 0 s.nodes) in
      let told : (u : ℕ) → u < s.nodes → IsTold plan u (row u) = λ u node. record {
        size = length-map-range_with_len (λ v. lie_of s t u v config) 0 s.nodes ∙ is.right.nodes;
        states = each_below (IsState plan u) (λ v. lie_of s t u v config) s.nodes
            (λ v lt. state_is u node (lie_of s t u v config)
            (lies_in_range s is.whole sound t u v config range node));
      } in
      record {
        size = length-map-range_with_len row 0 s.nodes ∙ is.right.nodes;
        rows = λ u lt.
            let node : u < s.nodes = (let n = is.right.nodes in omega arith) in
            subst (IsTold plan u)
            (sym (get_or-map-range_with_len row 0 s.nodes u u [] node (omega arith))) (told u node);
      }

  pub played_is : (t : ℕ) → IsConfiguration plan (played_at plan s t)
  played_is zero = configuration_of (start_of s)
      (λ v lt. state_is v lt (start_of s v) (starts_in_range s is.whole sound v))
  played_is (suc t) = steps_are t (played_at plan s t)

  -- if nobody is put into a state, the new state of each node is its step
  stepped : (t v n : ℕ) (faulty : List ℕ) → s.nodes ≡ n → faulty_at s t ≡ faulty → v < n
      → hit_at s (t + 1) v ≡ None
      → state_of (played_at plan s (suc t)) v
      ≡ step_of plan v (heard_by n faulty (played_at plan s t)
      (lies_at s t (played_at plan s t)) v)
  stepped t v n faulty nodes same lt none =
      let config : List State = played_at plan s t in
      get_or-map-range_with_len (λ u. unwrap_or (hit_at s (t + 1) u)
      (step_of plan u (heard_at s t config u))) 0 s.nodes v v (zero_state 0) (omega arith)
      (omega arith)
      ∙ ap (λ hit. unwrap_or hit (step_of plan v (heard_at s t config v))) none
      ∙ ap (λ f. step_of plan v (heard_by s.nodes f config (lies_at s t config) v)) same
      ∙ ap (λ m. step_of plan v (heard_by m faulty config (lies_at s t config) v)) nodes

  module _ (j : ℕ) (le : j ≤ length s.eras) where
    abbrev at : ℕ → List State
    at = played_at plan s

    pub round_in : (t : ℕ) → first_of_era s j ≤ t → t + 1 < end_of_era s j
        → Round plan (faulty_of_era s j) (played_at plan s t) (lies_at s t (played_at plan s t))
        (played_at plan s (t + 1))
    round_in t low high =
        let none = none_inside s is.whole.formed.rising j t le low high in
        rw (add-one t) (record {
          table = lies_are t (played_at plan s t) (played_is t);
          steps = λ v lt correct. stepped t v (plan_nodes plan) (faulty_of_era s j) is.right.nodes
              (same_faulty s is.whole j le t low (omega arith)) lt (none_hit s (t + 1) v none);
        })

    pub run_of_era : Run plan (faulty_of_era s j) (era_run plan s j)
    run_of_era = record {
      some = let some = era_some s is.whole j le in omega (arith, some, era_long s at j);
      configurations = each_below (IsConfiguration plan)
          (λ i. played_at plan s (first_of_era s j + i))
          (end_of_era s j - first_of_era s j) (λ i lt. played_is (first_of_era s j + i));
      rounds = neighbours s at j (λ t. IsNext plan (faulty_of_era s j)) []
          (λ t low high. record { lies = lies_at s t (at t); round = round_in t low high });
    }

    borne_in : IsToleratedBy plan (faulty_of_era s j)
    borne_in = of_each_era (IsToleratedBy plan) s j le is.right.borne

    counts_from : (from : ℕ) → CountsFrom plan (faulty_of_era s j) (era_run plan s j) from
        → EraCountsFrom plan s j (first_of_era s j + from)
    counts_from from counts = counts_played s is.whole j le at (AllShow plan) (plan_modulus plan)
        from counts.output counts.shows counts.grows

    era_locks : LocksAtBound → first_of_era s j + plan_bound plan < end_of_era s j
        → IsLocked plan (faulty_at s (first_of_era s j + plan_bound plan))
        (played_at plan s (first_of_era s j + plan_bound plan))
    era_locks law reaches = to_played s is.whole j le at (IsLocked plan)
        (first_of_era s j + plan_bound plan) (plan_bound plan) refl reaches
        (law plan is.accepted (faulty_of_era s j) (era_run plan s j) borne_in run_of_era
        (omega (arith, era_long s at j)))

    era_stays : LockedRunsCount → (t : ℕ) → first_of_era s j ≤ t → t < end_of_era s j
        → IsLocked plan (faulty_at s t) (played_at plan s t) → EraStaysLocked plan s j t
    era_stays law t low high locked =
        let i : ℕ = t - first_of_era s j in
        let long = era_long s at j in
        let back : first_of_era s j + i ≡ t = omega arith in
        let stays = law plan is.accepted (faulty_of_era s j)
        (era_run plan s j) borne_in run_of_era i (omega (arith, long))
        (from_played s is.whole j le at (IsLocked plan) t i back high locked) in
        record {
          locked = λ u lo hi. to_played s is.whole j le at (IsLocked plan) u
              (u - first_of_era s j) (omega arith) hi
              (stays.locked (u - first_of_era s j) (omega arith) (omega (arith, long)));
          counts = subst (EraCountsFrom plan s j) back (counts_from i stays.counts);
        }

pub eras_are_runs : ErasAreRuns
eras_are_runs plan s is j le = record {
  run = run_of_era plan s is j le;
  rounds =
      round_in plan s is j le;
}

pub eras_lock : LocksAtBound → ErasLock
eras_lock law plan s is j le reaches =
    let t : ℕ = first_of_era s j + plan_bound plan in
    let here = in_era s is.whole.formed.rising j t le (omega arith) reaches in
    first_locked_below (era_locked plan s (played_at plan s) j) t s.rounds
    (end_within s is.whole j t le reaches)
    (passes plan s (played_at plan s) is.whole j t le (end_within s is.whole j t le reaches) t here
    (subst (λ faulty. IsLocked plan faulty (played_at plan s t)) (ap (faulty_of_era s) here)
    (era_locks plan s is j le law reaches)))

pub eras_count : EveryPlanSettles → ErasCount
eras_count law plan s is j le = counts_from plan s is j le (plan_bound plan)
    (law plan is.accepted (faulty_of_era s j) (era_run plan s j) (borne_in plan s is j le)
    (run_of_era plan s is j le))

pub eras_stay_locked : LockedRunsCount → ErasStayLocked
eras_stay_locked law plan s is j le t low high locked =
    era_stays plan s is j le law t low high locked
