-- A node's step: the machine's, and after it that of a layer that hears what the node hears.
use Rattle.std.proofs.Common.{◌≡◌, ℕ, ◌<◌, List, ◌++◌, length, drop, All, sym, ap, ◌∙◌, subst, arith}
use Rattle.std.proofs.lemmas.List.{length-append, length-drop}
use Rattle.std.proofs.lemmas.List.Elements.{All-weaker}
use Rattle.sync_types.specs.States.{State}
use Rattle.construction.specs.Steps.{state_of}
use Rattle.counter_core.specs.Meanings.{Meaning, cut, written}
use Rattle.counter_core.specs.Overlays.{Layer, HasRegisters, HasValues, CanStep, MayHear, AreNew}
use Rattle.counter_core.specs.Overlays.{KeepsRange, layered}
use Rattle.state_codec.specs.Shapes.{fields_at}
use Rattle.state_codec.specs.Ranges.{InRange}
use Rattle.machines.specs.Machines.{Machine, IsFront}
use Rattle.machines.specs.Laws.{IsSound}
use Rattle.adversary_script.specs.Scripts.{Script}
use Rattle.adversary_script.specs.Lies.{AreStates}
use Rattle.adversary_script.specs.Rounds.{heard_at}
use Rattle.adversary_script.proofs.LiesInRange.{depth_of_node}
use Rattle.machine_runner.proofs.HeardAt.{heard_long, heard_range}
use Rattle.machine_runner.proofs.Places.{all_places}
use Rattle.layer_laws.specs.PlayedScenes.{layer_step, new_state}
use Rattle.player.specs.Counters.{machine_counter}
use Rattle.player.specs.ReadOver.{IsReadWithLayer}
use Rattle.layer_laws.proofs.Layered.{layered_written}
use Rattle.player.proofs.ReadOver.{front_is, values_are, joined}

-- a node of a script steps from a configuration of states in range
pub record CanTurn {Kept : Type 0} (machine : Machine) (layer : Layer Kept) (script : Script)
    (v : ℕ) (config : List State) : Type 0 where
  pub sound : IsSound machine
  pub read : IsReadWithLayer machine layer script
  pub keeps : KeepsRange layer
  pub node : v < script.nodes
  pub range : AreStates script.nodes script.shape config

module _ {Kept : Type 0} (machine : Machine) (layer : Layer Kept) (script : Script) (t v : ℕ)
    (config : List State) (can : CanTurn machine layer script v config) (kept : List Kept) where
  abbrev sound : IsSound machine
  sound = can.sound

  abbrev is : IsReadWithLayer machine layer script
  is = can.read

  abbrev counter : Meaning
  counter = machine_counter machine

  abbrev heard : List State
  heard = heard_at script t config v

  abbrev output : ℕ
  output = machine.shows v (state_of heard v)

  own : v < machine.nodes
  own = let nodes = is.right.nodes in (let node = can.node in omega (arith, node, nodes))

  long : length heard ≡ machine.nodes
  long = heard_long script t config v ∙ is.right.nodes

  ranges : AreStates script.nodes script.shape heard
  ranges = heard_range script t config v can.node can.range is.whole is.shape.sound

  range_at : (u : ℕ) → u < machine.nodes
      → InRange (fields_at script.shape u) (state_of heard u)
  range_at u lt = ranges u (let nodes = is.right.nodes in omega (arith, lt, nodes))

  -- the node's own state, and that of each other one, begins with one of the machine
  pub front_at : (u : ℕ) → u < machine.nodes → (s : State) → InRange (fields_at script.shape u) s
      → IsFront machine u s
  front_at u lt s range =
      let long = depth_of_node script.shape u s range in
      let depth = is.shape.depth in
      record {
        deep = omega (arith, long, depth);
        front = front_is machine layer script sound is u lt s range;
      }

  pub deep : length (machine.step v heard).registers ≡ machine.depth
  deep = (sound.next v own heard).depth ∙ sound.depth v own

  below_of : (s : State) → InRange (fields_at script.shape v) s → machine.shows v s < machine.modulus
  below_of s range = subst (λ (o : ℕ). o < machine.modulus)
      (sound.further.shows v own s)
      (sound.shown v own (cut machine.depth s)
      (front_is machine layer script sound is v own s range))

  -- what it shows
  pub shown_below : machine.shows v (state_of config v) < machine.modulus
  shown_below = below_of (state_of config v) (can.range v can.node)

  -- what the layer may hear, if it has registers
  pub may_hear_of : (told : List State) → length told ≡ machine.nodes
      → All (λ s. length s.registers ≡ script.shape.depth) told → All (HasValues layer) told
      → (o : ℕ) → o < machine.modulus → 0 < layer.extra → MayHear layer v o told
  may_hear_of told size deep values o below some =
      let same = is.over some in
      let nodes = same.nodes in
      let modulus = same.modulus in
      let depth = same.depth in
      let all = is.shape.depth in
      record {
        node = omega (arith, own, nodes);
        output = omega (arith, below, modulus);
        size = size ∙ sym nodes;
        deep = All-weaker (λ (s : State). length s.registers ≡ script.shape.depth)
            (HasRegisters layer) (λ s regs. omega (arith, regs, depth, all)) told deep;
        range = values;
      }

  heard_deep : All (λ s. length s.registers ≡ script.shape.depth) heard
  heard_deep = all_places (λ s. length s.registers ≡ script.shape.depth) heard (λ u lt.
      depth_of_node script.shape u (state_of heard u) (range_at u (omega (arith, lt, long))))

  pub values_at : (u : ℕ) → u < machine.nodes → (s : State) → InRange (fields_at script.shape u) s
      → HasValues layer s
  values_at u lt s range = values_are machine layer script sound is u lt s range

  pub may_hear : 0 < layer.extra → MayHear layer v output heard
  may_hear some = may_hear_of heard long heard_deep
      (all_places (HasValues layer) heard (λ u lt.
      let inside : u < machine.nodes = omega (arith, lt, long) in
      values_at u inside (state_of heard u) (range_at u inside)))
      output (below_of (state_of heard v) (range_at v own)) some

  pub can_step : (o : ℕ) (told : List State) (out : State) → MayHear layer v o told
      → length out.registers ≡ script.shape.depth → 0 < layer.extra
      → CanStep layer v o told out
  can_step o told out may room some =
      let depth = (is.over some).depth in
      let all = is.shape.depth in
      record {
        node = may.node;
        output = may.output;
        size = may.size;
        deep = may.deep;
        range = may.range;
        room = omega (arith, room, depth, all);
      }

  new_are : AreNew layer (layer_step counter layer kept v heard).registers
  new_are = can.keeps v output _ heard may_hear

  pub new_in_range : InRange (fields_at script.shape v) (new_state counter layer kept v heard)
  new_in_range = joined machine layer script sound is v own (machine.step v heard) _
      (sound.next v own heard) new_are.size new_are.range

  -- the layer's registers, written after the machine's step, make the new state
  pub out_is : (out : State) → length out.registers ≡ script.shape.depth
      → layered layer (layer_step counter layer kept v heard).registers
      (written machine.depth (machine.step v heard) out)
      ≡ new_state counter layer kept v heard
  out_is out room = layered_written machine.depth layer (machine.step v heard) out _ deep
      new_are.size (room ∙ is.shape.depth) (λ some. (is.over some).depth)

  -- the machine's step leaves the room for the layer's registers
  pub out_long : (before out : State) → length before.registers ≡ script.shape.depth
      → out ≡ written machine.depth (machine.step v heard) before
      → length out.registers ≡ script.shape.depth
  out_long before out room written_is =
      let both = length-append (machine.step v heard).registers
      (drop machine.depth before.registers) in
      let rest = length-drop machine.depth before.registers in
      let depth = is.shape.depth in
      ap (λ (s : State). length s.registers) written_is
      ∙ (let size : length ((machine.step v heard).registers ++ drop machine.depth before.registers)
      ≡ script.shape.depth = omega (arith, both, rest, deep, room, depth) in size)
