-- In which state a node starts, and what a faulty node tells another.
use Rattle.std.specs.Prelude.{ℕ, ◌+◌, ◌*◌, ◌%◌, ◌<◌, ◌==◌, if◌then◌else◌, List, length, map, Option}
use Rattle.std.specs.Prelude.{Some, None, slice_index, unwrap_or}
use Rattle.std.specs.Option.{option_map}
use Rattle.std.specs.List.{range_with_len}
use Rattle.sync_types.specs.declared.states.Reg.{Reg}
use Rattle.sync_types.specs.States.{State, zero_state, zero_register, register_at}
use Rattle.construction.specs.Steps.{state_of}
use Rattle.state_codec.specs.Shapes.{Fields, Shape, fields_at}
use Rattle.state_codec.specs.Ranges.{InRange}
use Rattle.state_codec.specs.Reading.{below}
use Rattle.adversary_script.specs.declared.lies.CommonStart.{CommonStart}
use Rattle.adversary_script.specs.declared.lies.CommonStart.TheVariants as common
use Rattle.adversary_script.specs.declared.lies.What.{What}
use Rattle.adversary_script.specs.declared.lies.What.TheVariants as what
use Rattle.adversary_script.specs.declared.lies.Lie.{Lie}
use Rattle.adversary_script.specs.Scripts.{Script}
use Rattle.adversary_script.specs.Noise.{noise_state}
use Rattle.adversary_script.specs.Lookup.{lie_for, start_for}

-- a finite value is that much larger, modulo the register's modulus; a lacking register stays zero
abbrev pub shifted_register : (by modulus : ℕ) → Reg → Reg
shifted_register by modulus register =
    if modulus == 0 then zero_register
    else record { a = option_map (λ a. (a + by) % modulus) register.a; d = register.d }

-- the number and the finite values are that much larger, each modulo its own modulus
abbrev pub shifted : (by : ℕ) → Fields → State → State
shifted by fields state = record {
  x = (state.x + by) % fields.base;
  registers =
      map (λ i. shifted_register by (slice_index fields.moduli i) (register_at i state))
      (range_with_len 0 (length fields.moduli));
}

-- a finite value below the modulus, else infinity
abbrev pub value_below : (modulus : ℕ) → Option ℕ → Option ℕ
value_below modulus None = None
value_below modulus (Some a) = below modulus a

-- a register with its value if that is below the modulus; one that is lacking is zero
unfoldable pub fitted_register : (modulus : ℕ) → Reg → Reg
fitted_register modulus register =
    if modulus == 0 then zero_register
    else record { a = value_below modulus register.a; d = register.d }

-- Those of a state's fields that are among these, and zero in the place of what is lacking. A
-- number or a value that is too large is taken as it is read from bytes: as 0, and as infinity.
abbrev pub fitted : Fields → State → State
fitted fields state = record {
  x = unwrap_or (below fields.base state.x) 0;
  registers =
      map (λ i. fitted_register (slice_index fields.moduli i) (register_at i state))
      (range_with_len 0 (length fields.moduli));
}

-- a configuration of so many nodes: the state of each is in range at its fields
abbrev pub AreStates : (nodes : ℕ) → Shape → List State → Type 0
AreStates nodes shape config = (v : ℕ) → v < nodes → InRange (fields_at shape v) (state_of config v)

-- the start that all nodes have in common
abbrev pub common_start : Script → CommonStart → ℕ → State
common_start script common.Zero v = zero_state script.shape.depth
common_start script common.Noise v = noise_state (fields_at script.shape v) script.key (65536 + v) 0

abbrev pub own_or_common : Script → Option State → ℕ → State
own_or_common script (Some state) v = state
own_or_common script None v = common_start script script.common v

-- the state in which node v starts
unfoldable pub start_of : Script → ℕ → State
start_of script v = own_or_common script (start_for script v) v

-- the state that a lie gives, when u tells it to v in round t, which begins with that configuration
abbrev pub lie_state : Script → (t u v : ℕ) → List State → What → State
lie_state script t u v config what.Noise =
    noise_state (fields_at script.shape u) script.key (256 * u + v) t
lie_state script t u v config (what.Copy w) = fitted (fields_at script.shape u) (state_of config w)
lie_state script t u v config (what.State state) = state
lie_state script t u v config (what.Shift by) =
    shifted by (fields_at script.shape u) (state_of config u)

-- that of the lie, or the puppet's state if there is none
abbrev pub lie_or_puppet : Script → (t u v : ℕ) → List State → Option Lie → State
lie_or_puppet script t u v config None = state_of config u
lie_or_puppet script t u v config (Some lie) = lie_state script t u v config lie.what

-- what the faulty node u tells v in round t, which begins with that configuration
unfoldable pub lie_of : Script → (t u v : ℕ) → List State → State
lie_of script t u v config = lie_or_puppet script t u v config (lie_for script t u v)
