-- What is played of a script without a layer is the script's.
use Rattle.std.proofs.Common.{◌≡◌, ℕ, ◌+◌, ◌<◌, ◌≤◌, List, [], length, Option, Some, None}
use Rattle.std.proofs.Common.{unwrap_or, get_or}
use Rattle.std.proofs.Common.{add-one, refl, ap, ◌∙◌, arith}
use Rattle.std.proofs.lemmas.List.{length-map}
use Rattle.std.proofs.lemmas.List.Elements.{All-get_or}
use Rattle.std.proofs.lemmas.List.FromFn.{get_or-map-range_with_len}
use Rattle.sync_types.specs.States.{State, zero_state}
use Rattle.construction.specs.Plans.{Plan, plan_nodes}
use Rattle.construction.specs.Steps.{state_of, step_of}
use Rattle.construction.specs.Runs.{heard_by, IsToleratedBy}
use Rattle.adversary_script.specs.Scripts.{Script, Era, faulty_sets}
use Rattle.adversary_script.specs.Eras.{faulty_of_era, faulty_at}
use Rattle.adversary_script.specs.Lookup.{hit_at}
use Rattle.adversary_script.specs.Lies.{lie_of}
use Rattle.round_runner.specs.Laws.{IsReadFor, ErasAreRuns}
use Rattle.round_runner.specs.Played.{heard_at, played_at}
use Rattle.promises.specs.PlainRuns.{lies_played, PlainScriptsArePlayed}
use Rattle.layer_runner.proofs.PlayedScripts.{told_is}
use Rattle.promises.proofs.SaidLines.{says_lines}

module _ (plan : Plan) (script : Script) (is : IsReadFor plan script) where
  abbrev at : ℕ → List State
  at t = played_at plan script t

  -- the state of a node after a round, by whether a start line puts it into one
  behind : (t v : ℕ) → v < plan_nodes plan → (hit : Option State) → hit_at script (t + 1) v ≡ hit
      → state_of (at (t + 1)) v ≡ unwrap_or hit (step_of plan v (heard_at script t (at t) v))
  behind t v lt hit is_hit =
      ap (λ k. state_of (at k) v) (add-one t)
      ∙ get_or-map-range_with_len (λ u. unwrap_or (hit_at script (t + 1) u)
      (step_of plan u (heard_at script t (at t) u))) 0 script.nodes v v (zero_state 0)
      (let same = is.right.nodes in omega (arith, lt, same)) (omega arith)
      ∙ ap (λ h. unwrap_or h (step_of plan v (heard_at script t (at t) v))) is_hit

  heard_same : (t v : ℕ) → heard_at script t (at t) v
      ≡ heard_by (plan_nodes plan) (faulty_at script t) (at t) (lies_played plan script t) v
  heard_same t v =
      ap (λ n. heard_by n (faulty_at script t) (at t) (lies_played plan script t) v) is.right.nodes

  told_in : (t u v : ℕ) → u < plan_nodes plan → v < plan_nodes plan
      → state_of (get_or (lies_played plan script t) u []) v ≡ lie_of script t u v (at t)
  told_in t u v ult vlt =
      let same = is.right.nodes in
      told_is script t (at t) u v (omega (arith, ult, same)) (omega (arith, vlt, same))

  borne_in : (j : ℕ) → j ≤ length script.eras → IsToleratedBy plan (faulty_of_era script j)
  borne_in j among = All-get_or (IsToleratedBy plan) (faulty_sets script) j []
      (omega (arith, among, length-map script.eras (λ (era : Era). era.faulty))) is.right.borne

pub plain_scripts_are_played : ErasAreRuns → PlainScriptsArePlayed
plain_scripts_are_played runs plan script is = record {
  says = says_lines script;
  starts = refl;
  puts = λ t v state inside lt hit. behind plan script is t v lt (Some state) hit;
  steps = λ t v inside lt none.
      behind plan script is t v lt None none ∙ ap (step_of plan v) (heard_same plan script is t v);
  told = λ t u v inside. told_in plan script is t u v;
  borne = borne_in plan script is;
  eras = runs plan script is;
}
