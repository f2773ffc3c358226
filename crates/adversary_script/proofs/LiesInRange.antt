-- The states in which a well formed script starts nodes, and those that its lies give, are in
-- range.
use Rattle.std.proofs.Common.{◌≡◌, ℕ, zero, suc, ◌+◌, ◌*◌, ◌<◌, ◌==◌, List, [], ◌∷◌, length, Bool}
use Rattle.std.proofs.Common.{true, false, ◌&&◌, nat_le, if◌then◌else◌, Option, Some, None, get_or}
use Rattle.std.proofs.Common.{refl, sym, subst, ◌∙◌, arith}
use Rattle.std.proofs.lemmas.List.{get_or_default}
use Rattle.std.specs.Prelude.{All, IfSome}
use Rattle.std.specs.List.{find}
use Rattle.std.specs.Option.{option_map}
use Rattle.std.proofs.lemmas.Bool.{eqb-true, and_parts}
use Rattle.sync_types.specs.States.{State, zero_state}
use Rattle.construction.specs.Steps.{state_of}
use Rattle.state_codec.specs.Shapes.{Fields, Shape, IsFields, IsShape, bytes_in, fields_at}
use Rattle.state_codec.specs.Ranges.{InRange}
use Rattle.state_codec.proofs.Lows.{fields_limited, depth_at}
use Rattle.state_codec.proofs.Ranged.{read_is_in_range, zero_in_range}
use Rattle.adversary_script.specs.declared.lies.CommonStart.{CommonStart}
use Rattle.adversary_script.specs.declared.lies.CommonStart.TheVariants as common
use Rattle.adversary_script.specs.declared.lies.Lie.{Lie}
use Rattle.adversary_script.specs.declared.lies.Start.{Start}
use Rattle.adversary_script.specs.declared.lies.What.{What}
use Rattle.adversary_script.specs.declared.lies.What.TheVariants as what
use Rattle.adversary_script.specs.Scripts.{Script, IsLying, AreInRange, IsScript}
use Rattle.adversary_script.specs.Noise.{noise_bytes, words_in, noise_state}
use Rattle.adversary_script.specs.Lookup.{hears, speaks, lie_for, start_in, start_for}
use Rattle.adversary_script.specs.Lies.{AreStates, fitted, common_start, own_or_common, start_of}
use Rattle.adversary_script.specs.Lies.{lie_state, lie_or_puppet, lie_of}
use Rattle.adversary_script.proofs.Shifted.{shifted_in_range}
use Rattle.adversary_script.proofs.Fitted.{fitted_in_range}

-- what holds of all holds of the one that is found, and it passes the test
found_or : {X : Type 0} (P : X → Type 0) (p : X → Bool) (b : Bool) (x : X) (rest : Option X)
    → p x ≡ b → P x → IfSome rest (λ x. P x × (p x ≡ true)) → IfSome (if b then Some x else rest)
    (λ x. P x × (p x ≡ true))
found_or P p true x rest is here behind = (here, is)
found_or P p false x rest is here behind = behind

found_has : {X : Type 0} (P : X → Type 0) (p : X → Bool) (xs : List X) → All P xs
    → IfSome (find p xs) (λ x. P x × (p x ≡ true))
found_has P p [] all = tt
found_has P p (x ∷ xs) all =
    found_or P p (p x) x (find p xs) refl (all zero x (omega arith))
    (found_has P p xs (λ k d lt. all (suc k) d (omega arith)))

noise_in_range : (fields : Fields) (key : List ℕ) (stream turn : ℕ) → IsFields fields
    → InRange fields (noise_state fields key stream turn)
unfolding noise_state
noise_in_range fields key stream turn limited =
    read_is_in_range fields (noise_bytes key stream (turn * words_in fields) (bytes_in fields))
    limited

pub zero_of_node : (shape : Shape) (v : ℕ) → IsShape shape
    → InRange (fields_at shape v) (zero_state shape.depth)
zero_of_node shape v sound =
    subst (λ n. InRange (fields_at shape v) (zero_state n)) (depth_at shape v)
    (zero_in_range (fields_at shape v) (fields_limited shape v sound))

-- a state in range has as many registers as the shape
pub depth_of_node : (shape : Shape) (v : ℕ) (state : State) → InRange (fields_at shape v) state
    → length state.registers ≡ shape.depth
depth_of_node shape v state range =
    range.depth ∙ depth_at shape v

-- the state of a node in a configuration, as the code reads it
pub state_at : (shape : Shape) (nodes : ℕ) (config : List State) (v : ℕ) (state : State)
    → AreStates nodes shape config → length config ≡ nodes → v < nodes
    → state ≡ get_or config v state → InRange (fields_at shape v) state
state_at shape nodes config v state range size lt is =
    subst (InRange (fields_at shape v))
    (sym (is ∙ get_or_default config v state _ (omega (arith, size)))) (range v lt)

-- the state of a start line of node v
own_start : (shape : Shape) (v : ℕ) (start : Option Start)
    → IfSome start (λ start. InRange (fields_at shape start.node) start.state
    × ((start.node == v) ≡ true)) → IfSome (option_map (λ (start : Start). start.state) start)
    (InRange (fields_at shape v))
own_start shape v None range = tt
own_start shape v (Some start) range =
    subst (λ v. InRange (fields_at shape v) start.state) (eqb-true start.node v range.1) range.0

pub start_in_range : (shape : Shape) (starts : List Start) (v : ℕ) → AreInRange shape starts
    → IfSome (start_in starts v) (InRange (fields_at shape v))
start_in_range shape starts v all =
    own_start shape v (find _ starts)
    (found_has (λ (start : Start). InRange (fields_at shape start.node) start.state) _ starts all)

-- the sender of a lie that speaks
sender_is : (s : Script) (t u v : ℕ) (lie : Lie) → speaks s.groups t u v lie ≡ true → lie.sender ≡ u
sender_is s t u v lie speaking =
    let front =
    (and_parts (lie.sender == u && nat_le lie.first t && nat_le t lie.last)
    (hears s.groups lie.who v) speaking).0 in
    let ahead = (and_parts (lie.sender == u && nat_le lie.first t) (nat_le t lie.last) front).0 in
    eqb-true lie.sender u (and_parts (lie.sender == u) (nat_le lie.first t) ahead).0

module _ (s : Script) (is : IsScript s) (sound : IsShape s.shape) where
  limited : (v : ℕ) → IsFields (fields_at s.shape v)
  limited v = fields_limited s.shape v sound

  common_in_range : (common : CommonStart) (v : ℕ) → InRange (fields_at s.shape v)
      (common_start s common v)
  common_in_range common.Zero v = zero_of_node s.shape v sound
  common_in_range common.Noise v =
      noise_in_range (fields_at s.shape v) s.key (65536 + v) 0 (limited v)

  own_in_range : (own : Option State) (v : ℕ) → IfSome own (InRange (fields_at s.shape v))
      → InRange (fields_at s.shape v) (own_or_common s own v)
  own_in_range (Some state) v range = range
  own_in_range None v range = common_in_range s.common v

  -- every start
  pub starts_in_range : (v : ℕ) → InRange (fields_at s.shape v) (start_of s v)
  unfolding start_of
  starts_in_range v =
      own_in_range (start_for s v) v (start_in_range s.shape s.starts v is.formed.starts)

  -- What holds of each state in range of the sender's fields, of its puppet's state, and of the
  -- fields that it has of each node's state, holds of what a lie of it gives.
  module _ (P : State → Type 0) (t u v : ℕ) (config : List State)
      (holds : (state : State) → InRange (fields_at s.shape u) state → P state)
      (puppet : P (state_of config u))
      (copies : (w : ℕ) → w < s.nodes → P (fitted (fields_at s.shape u) (state_of config w))) where
    state_has : (what : What) → IsLying s.nodes (fields_at s.shape u) what
        → P (lie_state s t u v config what)
    state_has what.Noise lying =
        holds _ (noise_in_range (fields_at s.shape u) s.key (256 * u + v) t (limited u))
    state_has (what.Copy w) lying = copies w lying
    state_has (what.State state) lying = holds state lying
    state_has (what.Shift by) lying =
        holds _ (shifted_in_range by (fields_at s.shape u) (state_of config u) (limited u))

    lie_has : (lie : Option Lie)
        → IfSome lie (λ lie. IsLying s.nodes (fields_at s.shape lie.sender) lie.what
        × (speaks s.groups t u v lie ≡ true)) → P (lie_or_puppet s t u v config lie)
    lie_has None lying = puppet
    lie_has (Some lie) lying = state_has lie.what (rw (sender_is s t u v lie lying.1) at lying.0)

    pub lies_have : P (lie_of s t u v config)
    unfolding lie_of
    lies_have =
        lie_has (lie_for s t u v)
        (found_has (λ (lie : Lie). IsLying s.nodes (fields_at s.shape lie.sender) lie.what)
        (speaks s.groups t u v) s.lies is.formed.lies)

  -- every lie of a node
  pub lies_in_range : (t u v : ℕ) (config : List State) → AreStates s.nodes s.shape config
      → u < s.nodes → InRange (fields_at s.shape u) (lie_of s t u v config)
  lies_in_range t u v config range node =
      lies_have (InRange (fields_at s.shape u)) t u v config (λ state range. range) (range u node)
      (λ w lt. fitted_in_range (fields_at s.shape u) (state_of config w) (limited u))
