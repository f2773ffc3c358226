-- Each era of what is played is a run of the machine.
use Rattle.std.proofs.Common.{◌≡◌, ℕ, zero, suc, ◌+◌, ◌-◌, ◌<◌, ◌≤◌, List, [], length, map}
use Rattle.std.proofs.Common.{None, unwrap_or, add-one, refl, sym, ap, ◌∙◌, subst, arith}
use Rattle.std.specs.List.{range_with_len}
use Rattle.std.proofs.lemmas.List.FromFn.{length-map-range_with_len, get_or-map-range_with_len}
use Rattle.sync_types.specs.States.{State, zero_state}
use Rattle.construction.specs.Steps.{state_of}
use Rattle.construction.specs.Runs.{heard_by}
use Rattle.machines.specs.Machines.{Machine, IsState, IsConfiguration, IsTold, IsTable, Round}
use Rattle.machines.specs.Machines.{IsNext, Run, AllShow, IsLocked, CountsFrom}
use Rattle.machines.specs.Laws.{IsSound}
use Rattle.adversary_script.specs.Scripts.{Script}
use Rattle.adversary_script.specs.Eras.{first_of_era, end_of_era, faulty_of_era, faulty_at}
use Rattle.adversary_script.specs.Lookup.{hit_at}
use Rattle.adversary_script.specs.Lies.{AreStates, start_of, lie_of}
use Rattle.adversary_script.proofs.LiesInRange.{starts_in_range, lies_in_range}
use Rattle.machine_runner.specs.Laws.{IsReadFor, EraCountsFrom, EraStaysLocked, ErasAreRuns}
use Rattle.machine_runner.specs.Laws.{ErasLock, ErasCount, ErasStayLocked}
use Rattle.machine_runner.specs.Locks.{is_locked, era_locked}
use Rattle.machine_runner.specs.Played.{lies_at, heard_at, after_round, played_at, era_run}
use Rattle.machine_runner.proofs.Eras.{era_long, neighbours, same_faulty, to_played, from_played}
use Rattle.machine_runner.proofs.Eras.{counts_played}
use Rattle.machine_runner.proofs.FirstLocked.{passes}
use Rattle.machine_runner.proofs.FirstPassing.{first_locked_below}
use Rattle.machine_runner.proofs.Firsts.{in_era, none_inside, none_hit, era_some, end_within}
use Rattle.machine_runner.proofs.Hits.{hit_has, put_has}
use Rattle.machine_runner.proofs.Locked.{lock_test_is_exact}
use Rattle.counter_core.proofs.StateLists.{each_below}
use Rattle.machine_runner.proofs.Places.{placed}
use Rattle.machine_runner.proofs.ReadFor.{state_is, range_is, borne_in}

module _ (machine : Machine) (s : Script) (sound : IsSound machine)
    (is : IsReadFor machine s) where
  -- states that are made node by node are a configuration
  configuration_of : (f : ℕ → State) → ((v : ℕ) → v < s.nodes → IsState machine v (f v))
      → IsConfiguration machine (map f (range_with_len 0 s.nodes))
  configuration_of f states = record {
    size = length-map-range_with_len f 0 s.nodes ∙ is.right.nodes;
    states = λ v lt. placed (IsState machine) f s.nodes states v
        (let n = is.right.nodes in omega arith);
  }

  steps_are : (t : ℕ) (config : List State)
      → IsConfiguration machine (after_round machine s t config)
  steps_are t config =
      let step : ℕ → State = λ v. machine.step v (heard_at s t config v) in
      configuration_of (λ v. unwrap_or (hit_at s (t + 1) v) (step v))
      (λ v lt. put_has (IsState machine v) (hit_at s (t + 1) v) (step v)
      (hit_has s is.whole (IsState machine v) (t + 1) v (state_is machine s is v lt))
      (sound.next v (let n = is.right.nodes in omega arith) (heard_at s t config v)))

  lies_are : (t : ℕ) (config : List State) → IsConfiguration machine config
      → IsTable machine (lies_at s t config)
  lies_are t config states =
      let range : AreStates s.nodes s.shape config =
      λ v lt. range_is machine s is v lt _
      (states.states v (let n = is.right.nodes in omega arith)) in
      let row : ℕ → List State = λ u. map (λ v. lie_of s t u v config) (range_with_len 0 s.nodes) in
      let told : (u : ℕ) → u < s.nodes → IsTold machine u (row u) = λ u node. record {
        size = length-map-range_with_len (λ v. lie_of s t u v config) 0 s.nodes ∙ is.right.nodes;
        states = each_below (IsState machine u) (λ v. lie_of s t u v config) s.nodes
            (λ v lt. state_is machine s is u node (lie_of s t u v config)
            (lies_in_range s is.whole is.shape.sound t u v config range node));
      } in
      record {
        size = length-map-range_with_len row 0 s.nodes ∙ is.right.nodes;
        rows = λ u lt.
            let node : u < s.nodes = (let n = is.right.nodes in omega arith) in
            subst (IsTold machine u)
            (sym (get_or-map-range_with_len row 0 s.nodes u u [] node (omega arith))) (told u node);
      }

  played_is : (t : ℕ) → IsConfiguration machine (played_at machine s t)
  played_is zero = configuration_of (start_of s)
      (λ v lt. state_is machine s is v lt (start_of s v)
      (starts_in_range s is.whole is.shape.sound v))
  played_is (suc t) = steps_are t (played_at machine s t)

  -- if nobody is put into a state, the new state of each node is its step
  stepped : (t v n : ℕ) (faulty : List ℕ) → s.nodes ≡ n → faulty_at s t ≡ faulty → v < n
      → hit_at s (t + 1) v ≡ None
      → state_of (played_at machine s (suc t)) v
      ≡ machine.step v (heard_by n faulty (played_at machine s t)
      (lies_at s t (played_at machine s t)) v)
  stepped t v n faulty nodes same lt none =
      let config : List State = played_at machine s t in
      get_or-map-range_with_len (λ u. unwrap_or (hit_at s (t + 1) u)
      (machine.step u (heard_at s t config u))) 0 s.nodes v v (zero_state 0) (omega arith)
      (omega arith)
      ∙ ap (λ hit. unwrap_or hit (machine.step v (heard_at s t config v))) none
      ∙ ap (λ f. machine.step v (heard_by s.nodes f config (lies_at s t config) v)) same
      ∙ ap (λ m. machine.step v (heard_by m faulty config (lies_at s t config) v)) nodes

  module _ (j : ℕ) (le : j ≤ length s.eras) where
    abbrev at : ℕ → List State
    at = played_at machine s

    pub round_in : (t : ℕ) → first_of_era s j ≤ t → t + 1 < end_of_era s j
        → Round machine (faulty_of_era s j) (played_at machine s t)
        (lies_at s t (played_at machine s t)) (played_at machine s (t + 1))
    round_in t low high =
        let none = none_inside s is.whole.formed.rising j t le low high in
        rw (add-one t) (record {
          table = lies_are t (played_at machine s t) (played_is t);
          steps = λ v lt correct. stepped t v machine.nodes (faulty_of_era s j) is.right.nodes
              (same_faulty s is.whole j le t low (omega arith)) lt (none_hit s (t + 1) v none);
        })

    pub run_of_era : Run machine (faulty_of_era s j) (era_run machine s j)
    run_of_era = record {
      some = let some = era_some s is.whole j le in omega (arith, some, era_long s at j);
      configurations = each_below (IsConfiguration machine)
          (λ i. played_at machine s (first_of_era s j + i))
          (end_of_era s j - first_of_era s j) (λ i lt. played_is (first_of_era s j + i));
      rounds = neighbours s at j (λ t. IsNext machine (faulty_of_era s j)) []
          (λ t low high. record { lies = lies_at s t (at t); round = round_in t low high });
    }

    counts_from : (from : ℕ) → CountsFrom machine (faulty_of_era s j) (era_run machine s j) from
        → EraCountsFrom machine s j (first_of_era s j + from)
    counts_from from counts =
        counts_played s is.whole j le at (AllShow machine) machine.modulus from
        counts.output counts.shows counts.grows

    era_locks : first_of_era s j + machine.bound < end_of_era s j
        → IsLocked machine (faulty_at s (first_of_era s j + machine.bound))
        (played_at machine s (first_of_era s j + machine.bound))
    era_locks reaches = to_played s is.whole j le at (IsLocked machine)
        (first_of_era s j + machine.bound) machine.bound refl reaches
        (sound.locks (faulty_of_era s j) (era_run machine s j) (borne_in machine s is j le)
        run_of_era (omega (arith, era_long s at j)))

    era_stays : (t : ℕ) → first_of_era s j ≤ t → t < end_of_era s j
        → IsLocked machine (faulty_at s t) (played_at machine s t) → EraStaysLocked machine s j t
    era_stays t low high locked =
        let i : ℕ = t - first_of_era s j in
        let long = era_long s at j in
        let back : first_of_era s j + i ≡ t = omega arith in
        let stays = sound.stays (faulty_of_era s j)
        (era_run machine s j) (borne_in machine s is j le) run_of_era i (omega (arith, long))
        (from_played s is.whole j le at (IsLocked machine) t i back high locked) in
        record {
          locked = λ u lo hi. to_played s is.whole j le at (IsLocked machine) u
              (u - first_of_era s j) (omega arith) hi
              (stays.locked (u - first_of_era s j) (omega arith) (omega (arith, long)));
          counts = subst (EraCountsFrom machine s j) back (counts_from i stays.counts);
        }

pub eras_are_runs : ErasAreRuns
eras_are_runs machine s sound is j le = record {
  run = run_of_era machine s sound is j le;
  rounds = round_in machine s sound is j le;
}

pub eras_lock : ErasLock
eras_lock machine s sound is j le reaches =
    let t : ℕ = first_of_era s j + machine.bound in
    let here = in_era s is.whole.formed.rising j t le (omega arith) reaches in
    let inside = end_within s is.whole j t le reaches in
    first_locked_below (era_locked machine s (played_at machine s) j) t s.rounds inside
    (passes (is_locked machine) (IsLocked machine) (lock_test_is_exact machine) s
    (played_at machine s) is.whole j t le inside t here
    (subst (λ faulty. IsLocked machine faulty (played_at machine s t)) (ap (faulty_of_era s) here)
    (era_locks machine s sound is j le reaches)))

pub eras_count : ErasCount
eras_count machine s sound is j le = counts_from machine s sound is j le machine.bound
    (sound.settles (faulty_of_era s j) (era_run machine s j) (borne_in machine s is j le)
    (run_of_era machine s sound is j le))

pub eras_stay_locked : ErasStayLocked
eras_stay_locked machine s sound is j le t low high locked =
    era_stays machine s sound is j le t low high locked
