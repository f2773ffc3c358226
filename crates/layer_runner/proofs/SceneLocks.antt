-- What is locked of the scenes of an era is locked without the layer's registers, and conversely.
use Rattle.std.proofs.Common.{◌≡◌, inl, inr, ℕ, ◌+◌, ◌-◌, ◌<◌, ◌≤◌}
use Rattle.std.proofs.Common.{List, [], length, map, Option, Some, None, refl, sym, ap}
use Rattle.std.proofs.Common.{◌∙◌, subst, arith}
use Rattle.std.proofs.lemmas.Bool.{cases_lt, true≢false}
use Rattle.std.proofs.lemmas.List.{get_or-take, get_or_past, length-map, take_all}
use Rattle.std.proofs.lemmas.List.Elements.{All-nil, All-get_or}
use Rattle.std.proofs.Math.Nat.{add-zero}
use Rattle.std.proofs.lemmas.List.FromFn.{length-map-range_with_len}
use Rattle.sync_types.specs.declared.states.Reg.{Reg}
use Rattle.sync_types.specs.States.{State, register_at, zero_register}
use Rattle.construction.specs.PhaseKing.{locked_at}
use Rattle.construction.specs.Steps.{state_of}
use Rattle.construction.specs.Runs.{configuration, AllLocked}
use Rattle.counter_core.specs.Meanings.{Meaning, cut}
use Rattle.counter_core.specs.NoLayers.{no_layer, no_layer_keeps}
use Rattle.counter_core.specs.Overlays.{Layer}
use Rattle.machines.specs.Machines.{Machine, IsState, IsConfiguration, IsLocked, LockedBy, Run}
use Rattle.machines.specs.Laws.{IsSound}
use Rattle.adversary_script.specs.Scripts.{Script}
use Rattle.adversary_script.specs.Eras.{first_of_era, end_of_era, faulty_of_era, faulty_at}
use Rattle.layer_laws.specs.CounterLayers.{IsLayerConfiguration, without_layer}
use Rattle.layer_laws.specs.CounterPlayed.{Telling, era_from, scene_after}
use Rattle.layer_laws.specs.Scenes.{Scene}
use Rattle.layer_laws.proofs.CounterEras.{eras_are_runs_over}
use Rattle.layer_laws.proofs.CounterSlots.{runs_without_layer_over}
use Rattle.machine_runner.specs.Locks.{is_locked, era_locked}
use Rattle.machine_runner.proofs.Eras.{same_faulty}
use Rattle.machine_runner.proofs.FirstLocked.{passes}
use Rattle.machine_runner.proofs.FirstPassing.{first_locked_below}
use Rattle.machine_runner.proofs.Firsts.{in_era}
use Rattle.machine_runner.proofs.Locked.{lock_test_is_exact}
use Rattle.player.specs.Counters.{machine_counter}
use Rattle.layer_runner.specs.Laws.{IsPlayable, EraCountsFrom, EraStaysLocked, ErasLock}
use Rattle.layer_runner.specs.Laws.{ErasStayLocked}
use Rattle.layer_runner.specs.Laws.{played_states, era_scenes}
use Rattle.layer_runner.proofs.CutStates.{state_of-cut}
use Rattle.layer_runner.proofs.EraScenes.{bare_run, bare_long, bare_at, borne_in, counts_from}
use Rattle.layer_runner.proofs.MachinesSettle.{machines_settle}
use Rattle.layer_runner.proofs.SceneStates.{configuration_is}

-- a register after the front of a state is zero there, and so no locked one
behind_front : (d register a : ℕ) (s : State) → length s.registers ≡ d
    → register_at register s ≡ locked_at a → register < d
behind_front d register a s size is = elim (cases_lt register d) [
  | inl lt ↦ lt
  | inr over ↦ absurd (true≢false (sym (ap (λ (r : Reg). r.d)
      (sym (get_or_past s.registers register zero_register (omega (arith, over, size))) ∙ is))))
]

-- A run of the machine that reaches its bound, in which no node is faulty: it is locked there.
module _ (machine : Machine) (sound : IsSound machine) (config : List State)
    (is : IsConfiguration machine config) where
  abbrev counter : Meaning
  counter = machine_counter machine

  abbrev honest : Telling
  honest t u v config = state_of config u

  abbrev begin : Scene (Unit {0})
  begin = record { states = config; kept = [] }

  abbrev run : List (List State)
  run = without_layer counter (era_from counter no_layer [] honest 0 begin machine.bound)

  whole : (v : ℕ) → v < machine.nodes → cut machine.depth (state_of config v) ≡ state_of config v
  whole v lt =
      let own : State = state_of config v in
      let size = (is.states v lt).depth ∙ sound.depth v lt in
      ap (λ (rs : List Reg). let s : State = record { x = own.x; registers = rs } in s)
      (take_all machine.depth own.registers (omega (arith, size)))

  begin_is : IsLayerConfiguration counter (IsState machine) no_layer config
  begin_is = record {
    size = is.size;
    states = λ v lt. record {
      front = subst (IsState machine v) (sym (whole v lt)) (is.states v lt);
      size = (is.states v lt).depth ∙ sound.depth v lt ∙ sym (add-zero machine.depth);
      values = λ i below. absurd (omega (arith, below));
    };
  }

  run_is : Run machine [] run
  run_is = runs_without_layer_over no_layer counter (IsState machine)
      (machines_settle machine sound).front [] 0 _
      (eras_are_runs_over no_layer counter (IsState machine) (machines_settle machine sound)
      (λ some. absurd (omega (arith, some))) no_layer_keeps [] honest
      (λ t u v config ult vlt states. states.states u ult) 0 begin begin_is (inl (λ x y. refl))
      machine.bound)

  reaches : machine.bound < length run
  reaches =
      let scenes : List (Scene (Unit {0})) =
      era_from counter no_layer [] honest 0 begin machine.bound in
      let cut_long =
      length-map scenes (λ (s : Scene (Unit {0})). map (cut counter.depth) s.states) in
      let long = length-map-range_with_len (scene_after counter no_layer [] honest 0 begin) 0
      (machine.bound + 1) in
      omega (arith, cut_long, long)

  at_bound : IsLocked machine [] (configuration run machine.bound)
  at_bound = sound.locks [] run (record {
    rising = λ k lt. absurd (omega (arith, lt));
    ids = All-nil (λ (id : ℕ). id < machine.nodes);
    few = omega arith;
  }) run_is reaches

  -- so the register that tells whether a configuration is locked is one of the machine
  pub lock_within : (register : ℕ) → machine.lock ≡ Some register → register < machine.depth
  lock_within register is_lock =
      let quorum = sound.quorum in
      let some : 0 < machine.nodes = omega (arith, quorum) in
      let there : List State = configuration run machine.bound in
      let locked : AllLocked register machine.nodes [] there =
      subst (λ (lock : Option ℕ). LockedBy lock machine.nodes [] there) is_lock at_bound in
      let state = (All-get_or (IsConfiguration machine) run machine.bound [] reaches
      run_is.configurations).states 0 some in
      behind_front machine.depth register locked.value (state_of there 0)
      (state.depth ∙ sound.depth 0 some) (locked.each 0 some refl)

module _ (d n : ℕ) (faulty : List ℕ) (config : List State) where
  front_register : (register v : ℕ) → register < d
      → register_at register (state_of (map (cut d) config) v)
      ≡ register_at register (state_of config v)
  front_register register v lt = ap (register_at register) (state_of-cut d config v)
      ∙ get_or-take d (state_of config v).registers register zero_register lt

  -- if that register is one of the front, the front of what is locked is locked
  pub whole_locked : (lock : Option ℕ) → ((register : ℕ) → lock ≡ Some register → register < d)
      → LockedBy lock n faulty (map (cut d) config) → LockedBy lock n faulty config
  whole_locked None within h = tt
  whole_locked (Some register) within h = record {
    value = h.value;
    each = λ v lt correct. sym (front_register register v (within register refl))
        ∙ h.each v lt correct;
  }

  pub front_locked : (lock : Option ℕ) → ((register : ℕ) → lock ≡ Some register → register < d)
      → LockedBy lock n faulty config → LockedBy lock n faulty (map (cut d) config)
  front_locked None within h = tt
  front_locked (Some register) within h = record {
    value = h.value;
    each = λ v lt correct. front_register register v (within register refl)
        ∙ h.each v lt correct;
  }

module _ {Kept : Type 0} (machine : Machine) (script : Script) (layer : Layer Kept)
    (began : List Kept) (is : IsPlayable machine script layer began) (j : ℕ)
    (among : j ≤ length script.eras) where
  abbrev first : ℕ
  first = first_of_era script j

  abbrev faulty : List ℕ
  faulty = faulty_of_era script j

  abbrev states : ℕ → List State
  states t = played_states machine script layer began t

  abbrev bare : List (List State)
  bare = without_layer (machine_counter machine) (era_scenes machine script layer began j)

  begins : IsConfiguration machine (map (cut machine.depth) (states 0))
  begins =
      let own = configuration_is machine script layer began is 0 in
      record {
        size = length-map (states 0) (cut machine.depth) ∙ own.size;
        states = λ v lt. subst (IsState machine v) (sym (state_of-cut machine.depth (states 0) v))
            (own.states v lt).front;
      }

  within : (register : ℕ) → machine.lock ≡ Some register → register < machine.depth
  within = lock_within machine is.sound (map (cut machine.depth) (states 0)) begins

  -- what is locked of the run without the layer is locked as it is played, and conversely
  to_played : (t : ℕ) → first ≤ t → t < end_of_era script j
      → IsLocked machine faulty (configuration bare (t - first))
      → IsLocked machine faulty (states t)
  to_played t low high h = whole_locked machine.depth machine.nodes faulty (states t) machine.lock
      within (subst (IsLocked machine faulty)
      (bare_at machine script layer began is j among t low high) h)

  from_played : (t : ℕ) → first ≤ t → t < end_of_era script j
      → IsLocked machine faulty (states t)
      → IsLocked machine faulty (configuration bare (t - first))
  from_played t low high h = subst (IsLocked machine faulty)
      (sym (bare_at machine script layer began is j among t low high))
      (front_locked machine.depth machine.nodes faulty (states t) machine.lock within h)

  at_the_bound : first + machine.bound < end_of_era script j
      → IsLocked machine faulty (states (first + machine.bound))
  at_the_bound high =
      let long = bare_long machine script layer began is j among in
      let back : machine.bound ≡ first + machine.bound - first = omega arith in
      to_played (first + machine.bound) (omega arith) high
      (subst (λ (i : ℕ). IsLocked machine faulty (configuration bare i)) back
      (is.sound.locks faulty bare (borne_in machine script layer began is j among)
      (bare_run machine script layer began is j among) (omega (arith, high, long))))

  stays : (t : ℕ) → first ≤ t → t < end_of_era script j
      → IsLocked machine (faulty_at script t) (states t)
      → EraStaysLocked machine script layer began j t
  stays t low high locked =
      let long = bare_long machine script layer began is j among in
      let same = same_faulty script is.read.whole j among in
      let back : first + (t - first) ≡ t = omega arith in
      let after = is.sound.stays faulty bare (borne_in machine script layer began is j among)
      (bare_run machine script layer began is j among) (t - first) (omega (arith, high, long))
      (from_played t low high
      (subst (λ (f : List ℕ). IsLocked machine f (states t)) (same t low high) locked)) in
      record {
        locked = λ u lo hi.
            let from : first ≤ u = omega arith in
            subst (λ (f : List ℕ). IsLocked machine f (states u)) (sym (same u from hi))
            (to_played u from hi (after.locked (u - first) (omega arith) (omega (arith, long))));
        counts = subst (EraCountsFrom machine script layer began j) back
            (counts_from machine script layer began is j among (t - first) after.counts);
      }

pub eras_lock : {Kept : Type 0} (layer : Layer Kept) → ErasLock layer
eras_lock layer machine script began is j among high at reached within_rounds =
    let t : ℕ = first_of_era script j + machine.bound in
    first_locked_below (era_locked machine script (played_states machine script layer began) j) t at
    reached
    (passes (is_locked machine) (IsLocked machine) (lock_test_is_exact machine) script
    (played_states machine script layer began) is.read.whole j at among within_rounds t
    (in_era script is.read.whole.formed.rising j t among (omega arith) high)
    (at_the_bound machine script layer began is j among high))

pub eras_stay_locked : {Kept : Type 0} (layer : Layer Kept) → ErasStayLocked layer
eras_stay_locked layer machine script began is j among = stays machine script layer began is j among
