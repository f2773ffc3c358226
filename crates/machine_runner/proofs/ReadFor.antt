-- What a script that was read for a machine says of the machine's nodes.
use Rattle.std.proofs.Common.{ℕ, ◌<◌, ◌≤◌, All, length, refl, sym, ◌∙◌, subst, arith}
use Rattle.sync_types.specs.States.{State}
use Rattle.state_codec.specs.Shapes.{Fields, fields_at}
use Rattle.state_codec.specs.Ranges.{InRange}
use Rattle.machines.specs.Machines.{Machine, IsState, IsToleratedBy}
use Rattle.adversary_script.specs.Scripts.{Script, faulty_sets}
use Rattle.adversary_script.specs.Eras.{faulty_of_era}
use Rattle.adversary_script.specs.ScriptPart.{IsTolerated}
use Rattle.machine_runner.specs.Laws.{IsShapeOf, IsReadFor, ReadersFit}
use Rattle.machine_runner.proofs.Eras.{of_each_era}

-- what the reader of scripts says of a script, for a machine
pub readers_fit : ReadersFit
readers_fit machine shape script fits for whole = record {
  shape = subst (IsShapeOf machine) (sym for.states) fits;
  right = record {
    nodes = for.nodes ∙ fits.nodes;
    states = refl;
    borne = subst (λ n. All (IsTolerated n machine.faults) (faulty_sets script)) fits.nodes
        for.borne;
  };
  whole = whole;
}

module _ (machine : Machine) (s : Script) (is : IsReadFor machine s) where
  -- a state of a node's fields is one of the machine's node, and conversely
  pub state_is : (v : ℕ) → v < s.nodes → (x : State) → InRange (fields_at s.shape v) x
      → IsState machine v x
  state_is v lt x range = subst (λ (fields : Fields). InRange fields x)
      (is.shape.fields v (let n = is.right.nodes in omega (arith, lt, n))) range

  pub range_is : (v : ℕ) → v < s.nodes → (x : State) → IsState machine v x
      → InRange (fields_at s.shape v) x
  range_is v lt x state = subst (λ (fields : Fields). InRange fields x)
      (sym (is.shape.fields v (let n = is.right.nodes in omega (arith, lt, n)))) state

  -- the faulty nodes of each era are what the machine tolerates
  pub borne_in : (j : ℕ) → j ≤ length s.eras → IsToleratedBy machine (faulty_of_era s j)
  borne_in j le =
      let few = of_each_era (IsTolerated machine.nodes machine.faults) s j le is.right.borne in
      record { rising = few.rising; ids = few.ids; few = few.few }
