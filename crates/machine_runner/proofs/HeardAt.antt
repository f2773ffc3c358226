-- What a node of a machine hears in a round of a script that was read for it is a configuration.
use Rattle.std.proofs.Common.{◌≡◌, ℕ, ◌<◌, List, length, ◌∙◌, arith}
use Rattle.std.proofs.lemmas.List.FromFn.{length-map-range_with_len}
use Rattle.sync_types.specs.States.{State}
use Rattle.construction.specs.Runs.{heard_of}
use Rattle.state_codec.specs.Shapes.{IsShape, fields_at}
use Rattle.state_codec.specs.Ranges.{InRange}
use Rattle.machines.specs.Machines.{Machine, IsConfiguration}
use Rattle.adversary_script.specs.Scripts.{Script, IsScript}
use Rattle.adversary_script.specs.Eras.{faulty_at}
use Rattle.adversary_script.specs.Lies.{AreStates, lie_of}
use Rattle.adversary_script.proofs.LiesInRange.{lies_in_range}
use Rattle.machine_runner.specs.Laws.{IsReadFor}
use Rattle.machine_runner.specs.Played.{lies_at, heard_at}
use Rattle.machine_runner.proofs.Heard.{heard_has}
use Rattle.machine_runner.proofs.ReadFor.{state_is}

module _ (script : Script) (t : ℕ) (config : List State) (v : ℕ) where
  pub heard_long : length (heard_at script t config v) ≡ script.nodes
  heard_long =
      length-map-range_with_len
      (heard_of (faulty_at script t) config (lies_at script t config) v) 0 script.nodes

  module _ (node : v < script.nodes) (range : AreStates script.nodes script.shape config) where
    pub heard_range : IsScript script → IsShape script.shape
        → AreStates script.nodes script.shape (heard_at script t config v)
    heard_range whole sound =
        heard_has script.nodes (faulty_at script t) config (λ u w. lie_of script t u w config) v
        (λ u s. InRange (fields_at script.shape u) s) node range
        (λ u lt. lies_in_range script whole sound t u v config range lt)

    pub heard_is_one : (machine : Machine) → IsReadFor machine script
        → IsConfiguration machine (heard_at script t config v)
    heard_is_one machine is = record {
      size = heard_long ∙ is.right.nodes;
      states = λ u lt.
          let inside : u < script.nodes = (let n = is.right.nodes in omega (arith, lt, n)) in
          state_is machine script is u inside _ (heard_range is.whole is.shape.sound u inside);
    }
