-- What a lie that copies says, if what it copies is a state of the sender's own fields.
use Rattle.std.specs.Prelude.{◌≡◌, ℕ, ◌<◌, List}
use Rattle.sync_types.specs.States.{State}
use Rattle.construction.specs.Steps.{state_of}
use Rattle.state_codec.specs.Shapes.{Fields, fields_at}
use Rattle.state_codec.specs.Ranges.{InRange}
use Rattle.adversary_script.specs.declared.lies.What.TheVariants as what
use Rattle.adversary_script.specs.Scripts.{Script}
use Rattle.adversary_script.specs.Lies.{fitted, AreStates, lie_state}

-- A state that is in range of some fields is left as it is.
abbrev pub FittedIsSame : Type 0
FittedIsSame =
    (fields : Fields) (state : State) → InRange fields state → fitted fields state ≡ state

-- So u, which copies a node w of its own fields, says the state that w has.
abbrev pub CopyIsSame : Type 0
CopyIsSame = (script : Script) (t u v w : ℕ) (config : List State)
    → AreStates script.nodes script.shape config → w < script.nodes
    → fields_at script.shape u ≡ fields_at script.shape w
    → lie_state script t u v config (what.Copy w) ≡ state_of config w
