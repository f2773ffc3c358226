-- What each node tells and hears in a round of a script is in range, if the configuration is.
use Rattle.std.proofs.Common.{◌≡◌, ℕ, ◌<◌, eqb, not, ◌||◌, List, [], length, get_or, sym}
use Rattle.std.proofs.Common.{subst, arith}
use Rattle.std.proofs.lemmas.List.FromFn.{length-map-range_with_len, get_or-map-range_with_len}
use Rattle.sync_types.specs.States.{State, zero_state}
use Rattle.construction.specs.Steps.{state_of}
use Rattle.construction.specs.Runs.{is_in, heard_of}
use Rattle.state_codec.specs.Shapes.{IsShape, fields_at}
use Rattle.state_codec.specs.Ranges.{InRange}
use Rattle.adversary_script.specs.Scripts.{Script, IsScript}
use Rattle.adversary_script.specs.Eras.{faulty_at}
use Rattle.adversary_script.specs.Lies.{AreStates, lie_of}
use Rattle.adversary_script.proofs.LiesInRange.{lies_in_range}
use Rattle.counter_core.proofs.StateLists.{choice_is}
use Rattle.round_runner.specs.Played.{lies_at, heard_at}
use Rattle.layer_runner.proofs.PlayedScripts.{told_is}

module _ (script : Script) (whole : IsScript script) (sound : IsShape script.shape) (t : ℕ)
    (config : List State) (range : AreStates script.nodes script.shape config) where
  pub lie_is : (u v : ℕ) → u < script.nodes
      → InRange (fields_at script.shape u) (lie_of script t u v config)
  lie_is u v ult = lies_in_range script whole sound t u v config range ult

  -- what node v hears
  module _ (v : ℕ) (vlt : v < script.nodes) where
    pub heard_long : length (heard_at script t config v) ≡ script.nodes
    heard_long = length-map-range_with_len
        (heard_of (faulty_at script t) config (lies_at script t config) v) 0 script.nodes

    pub heard_is : (u : ℕ) → u < script.nodes
        → InRange (fields_at script.shape u) (state_of (heard_at script t config v) u)
    heard_is u ult =
        let faulty = faulty_at script t in
        let lies = lies_at script t config in
        subst (InRange (fields_at script.shape u))
        (sym (get_or-map-range_with_len (heard_of faulty config lies v) 0 script.nodes u u
        (zero_state 0) ult (omega arith)))
        (choice_is (InRange (fields_at script.shape u)) (eqb u v || not (is_in faulty u))
        (state_of config u) (state_of (get_or lies u []) v) (range u ult)
        (subst (InRange (fields_at script.shape u)) (sym (told_is script t config u v ult vlt))
        (lie_is u v ult)))
