-- Without a layer what is played is what the machine plays.
use Rattle.std.proofs.Common.{◌≡◌, ℕ, zero, suc, ◌+◌, ◌≤◌, List, [], length, map, get_or}
use Rattle.std.proofs.Common.{Option, unwrap_or, refl, sym, ap, ◌∙◌, arith}
use Rattle.std.proofs.Math.Path.{fun_ext}
use Rattle.std.specs.List.{range_with_len}
use Rattle.std.proofs.lemmas.List.{append-nil}
use Rattle.sync_types.specs.declared.states.Reg.{Reg}
use Rattle.sync_types.specs.States.{State}
use Rattle.counter_core.specs.NoLayers.{no_layer}
use Rattle.state_codec.specs.Shapes.{Fields}
use Rattle.machines.specs.Machines.{Machine}
use Rattle.adversary_script.specs.Scripts.{Script}
use Rattle.adversary_script.specs.Lookup.{hit_at}
use Rattle.adversary_script.specs.Rounds.{heard_at}
use Rattle.machine_runner.specs.FirstLocked as any
use Rattle.machine_runner.specs.Laws.{IsReadFor}
use Rattle.machine_runner.specs.Locks.{is_locked, first_locked, era_locked}
use Rattle.machine_runner.specs.Played.{played_at}
use Rattle.machine_runner.proofs.KnownLocks.{known_at}
use Rattle.layer_laws.specs.Scenes.{Scene}
use Rattle.layer_laws.specs.PlayedScenes.{begun_kept, scene_at, new_state}
use Rattle.layer_laws.specs.Positions.{configuration_in}
use Rattle.player.specs.Bare.{stands, IsBare}
use Rattle.player.specs.Counters.{machine_counter}
use Rattle.player.specs.ReadOver.{IsReadWithLayer}
use Rattle.player.specs.Runners.{Running}

-- a script that was read for the machine was read for it without a layer
pub bare_read : (machine : Machine) (script : Script) → IsReadFor machine script
    → IsReadWithLayer machine no_layer script
bare_read machine script read = record {
  shape = record {
    sound = read.shape.sound;
    nodes = read.shape.nodes;
    depth = let depth = read.shape.depth in omega (arith, depth);
    fields = λ v lt. read.shape.fields v lt
        ∙ ap (λ (moduli : List ℕ). let f : Fields =
        record { base = (machine.fields v).base; moduli = moduli } in f)
        (sym (append-nil (machine.fields v).moduli));
  };
  right = read.right;
  whole = read.whole;
  over = λ some. absurd (omega (arith, some));
}

pub read_bare : (machine : Machine) (script : Script) → IsReadWithLayer machine no_layer script
    → IsReadFor machine script
read_bare machine script read = record {
  shape = record {
    sound = read.shape.sound;
    nodes = read.shape.nodes;
    depth = let depth = read.shape.depth in omega (arith, depth);
    fields = λ v lt. read.shape.fields v lt
        ∙ ap (λ (moduli : List ℕ). let f : Fields =
        record { base = (machine.fields v).base; moduli = moduli } in f)
        (append-nil (machine.fields v).moduli);
  };
  right = read.right;
  whole = read.whole;
}

-- without a layer the states of a scene are the played configuration
pub scene_played : (machine : Machine) (script : Script) (began : List (Unit {0})) (t : ℕ)
    → (scene_at (machine_counter machine) script no_layer began t).states
    ≡ played_at machine script t
scene_played machine script began zero = refl
scene_played machine script began (suc t) =
    let bare : (v : ℕ) (config : List State) (k : List (Unit {0}))
    → new_state (machine_counter machine) no_layer k v (heard_at script t config v)
    ≡ machine.step v (heard_at script t config v) = λ v config k.
    ap (λ (registers : List Reg). let s : State =
    record { x = (machine.step v (heard_at script t config v)).x; registers = registers } in s)
    (append-nil (machine.step v (heard_at script t config v)).registers) in
    let before = scene_at (machine_counter machine) script no_layer began t in
    let behind : ℕ → State → State = λ v s. unwrap_or (hit_at script (t + 1) v) s in
    ap (λ (f : ℕ → State). map f (range_with_len 0 script.nodes))
    (fun_ext (λ v. ap (behind v) (bare v before.states (begun_kept no_layer t before.kept))))
    ∙ ap (λ (config : List State).
    map (λ v. behind v (machine.step v (heard_at script t config v)))
    (range_with_len 0 script.nodes)) (scene_played machine script began t)

module _ {M O : Type 0} (machine_of : M → Machine) (r : Running M O) (is : IsBare machine_of r) where
  abbrev machine : Machine
  machine = machine_of r.machine

  -- a player without one is at the configuration that is played
  pub states_are : r.states ≡ played_at machine r.script r.at
  states_are = ap (λ (s : Scene (Unit {0})). s.states) is.scene
      ∙ scene_played machine r.script [] r.at

  -- and knows the first locked ones of what is played
  pub lock_is : (j : ℕ) → j ≤ length r.script.eras → (d : Option ℕ)
      → get_or r.locks j d
      ≡ first_locked (era_locked machine r.script (played_at machine r.script) j) r.at
  lock_is j among d =
      let played = configuration_in [] (stands machine_of r) in
      ap (λ (locks : List (Option ℕ)). get_or locks j d) is.locks
      ∙ known_at (is_locked machine) r.script played r.at j d (omega (arith, among))
      ∙ ap (λ (config_at : ℕ → List State).
      first_locked (any.era_locked (is_locked machine) r.script config_at j) r.at)
      (fun_ext (scene_played machine r.script []))
