-- What is played of a script on a machine is the script's.
use Rattle.std.proofs.Common.{◌≡◌, ℕ, ◌+◌, ◌<◌, List, [], map, Option, Some, None, unwrap_or}
use Rattle.std.proofs.Common.{get_or, add-one, refl, ap, ◌∙◌, arith}
use Rattle.std.specs.List.{range_with_len}
use Rattle.std.proofs.lemmas.List.FromFn.{get_or-map-range_with_len}
use Rattle.sync_types.specs.States.{State, zero_state}
use Rattle.construction.specs.Steps.{state_of}
use Rattle.construction.specs.Runs.{heard_by}
use Rattle.machines.specs.Machines.{Machine}
use Rattle.adversary_script.specs.Scripts.{Script}
use Rattle.adversary_script.specs.Eras.{faulty_at}
use Rattle.adversary_script.specs.Lookup.{hit_at}
use Rattle.adversary_script.specs.Lies.{lie_of}
use Rattle.machine_runner.specs.Laws.{IsReadFor}
use Rattle.machine_runner.specs.Played.{heard_at, played_at}
use Rattle.machine_runner.specs.Plays.{lies_played, ScriptsArePlayed}

module _ (machine : Machine) (script : Script) (is : IsReadFor machine script) where
  abbrev at : ℕ → List State
  at t = played_at machine script t

  -- the state of a node after a round, by whether a start line puts it into one
  behind : (t v : ℕ) → v < machine.nodes → (hit : Option State) → hit_at script (t + 1) v ≡ hit
      → state_of (at (t + 1)) v ≡ unwrap_or hit (machine.step v (heard_at script t (at t) v))
  behind t v lt hit is_hit =
      ap (λ k. state_of (at k) v) (add-one t)
      ∙ get_or-map-range_with_len (λ u. unwrap_or (hit_at script (t + 1) u)
      (machine.step u (heard_at script t (at t) u))) 0 script.nodes v v (zero_state 0)
      (let same = is.right.nodes in omega (arith, lt, same)) (omega arith)
      ∙ ap (λ h. unwrap_or h (machine.step v (heard_at script t (at t) v))) is_hit

  heard_same : (t v : ℕ) → heard_at script t (at t) v
      ≡ heard_by machine.nodes (faulty_at script t) (at t) (lies_played machine script t) v
  heard_same t v =
      ap (λ n. heard_by n (faulty_at script t) (at t) (lies_played machine script t) v)
      is.right.nodes

  -- what the table of lies of a round has for two nodes
  told_is : (t u v : ℕ) → u < machine.nodes → v < machine.nodes
      → state_of (get_or (lies_played machine script t) u []) v ≡ lie_of script t u v (at t)
  told_is t u v ult vlt =
      let same = is.right.nodes in
      ap (λ (row : List State). state_of row v)
      (get_or-map-range_with_len
      (λ w. map (λ x. lie_of script t w x (at t)) (range_with_len 0 script.nodes)) 0
      script.nodes u u [] (omega (arith, ult, same)) (omega arith))
      ∙ get_or-map-range_with_len (λ x. lie_of script t u x (at t)) 0 script.nodes v v
      (zero_state 0) (omega (arith, vlt, same)) (omega arith)

pub scripts_are_played : ScriptsArePlayed
scripts_are_played machine script is = record {
  starts = refl;
  puts = λ t v state inside lt hit. behind machine script is t v lt (Some state) hit;
  steps = λ t v inside lt none.
      behind machine script is t v lt None none
      ∙ ap (machine.step v) (heard_same machine script is t v);
  told = λ t u v inside. told_is machine script is t u v;
}
