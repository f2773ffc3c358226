-- What a node hears in a round of a script, place by place.
use Rattle.std.proofs.Common.{◌≡◌, ℕ, ◌<◌, true, false, cond, refl, sym, ap, ◌∙◌, List, map}
use Rattle.std.proofs.Common.{subst, arith}
use Rattle.std.specs.Prelude.{◌==◌}
use Rattle.std.specs.List.{range_with_len}
use Rattle.std.proofs.lemmas.List.FromFn.{get_or-map-range_with_len}
use Rattle.sync_types.specs.FaultSets.{is_in}
use Rattle.sync_types.specs.States.{State, zero_state}
use Rattle.construction.specs.Steps.{state_of}
use Rattle.construction.specs.Runs.{heard_of, heard_by}
use Rattle.state_codec.specs.Shapes.{Shape, fields_at}
use Rattle.state_codec.specs.Ranges.{InRange}
use Rattle.adversary_script.specs.Scripts.{Script}
use Rattle.adversary_script.specs.Eras.{faulty_at}
use Rattle.adversary_script.specs.Lies.{lie_of}
use Rattle.round_runner.specs.Played.{lies_at, heard_at}
use Rattle.machine_runner.proofs.Heard.{one_at}

module _ (script : Script) (t v : ℕ) (config : List State) (node : v < script.nodes) (u : ℕ)
    (lt : u < script.nodes) (told : State) where
  abbrev bad : List ℕ
  bad = faulty_at script t

  -- what is told is heard, if it is what a faulty node tells, and the state of a correct one
  pub heard_place : (is_in bad u ≡ true
      → told ≡ cond (u == v) (state_of config u) (lie_of script t u v config))
      → (is_in bad u ≡ false → told ≡ state_of config u)
      → told ≡ state_of (heard_at script t config v) u
  heard_place lies honest =
      one_at script.nodes bad config (λ u w. lie_of script t u w config) v (is_in bad u) u told
      refl lt node lies honest
      ∙ sym (get_or-map-range_with_len (heard_of bad config (lies_at script t config) v) 0
      script.nodes u u (zero_state 0) lt (omega arith))

-- a state that is read of a configuration is in range as it was there
pub read_range : (own shape : Shape) (config : List State) (u : ℕ) (out : State) → own ≡ shape
    → InRange (fields_at own u) (state_of config u) → out ≡ state_of config u
    → InRange (fields_at shape u) out
read_range own shape config u out same range is =
    subst (λ (s : State). InRange (fields_at shape u) s) (sym is)
    (subst (λ (own : Shape). InRange (fields_at own u) (state_of config u)) same range)

-- what a node hears of all, as of a plan with as many nodes and with these nodes faulty
pub all_heard : (script : Script) (t : ℕ) (config : List State) (v n : ℕ) (ids : List ℕ)
    → n ≡ script.nodes → ids ≡ faulty_at script t
    → heard_by n ids config (map (λ u. map (λ w. lie_of script t u w config) (range_with_len 0 n))
    (range_with_len 0 n)) v ≡ heard_at script t config v
all_heard script t config v n ids nodes same =
    ap (λ (m : ℕ). heard_by m ids config (map (λ u. map (λ w. lie_of script t u w config)
    (range_with_len 0 m)) (range_with_len 0 m)) v) nodes
    ∙ ap (λ (xs : List ℕ). heard_by script.nodes xs config (lies_at script t config) v) same
