-- The states that an engine keeps are a configuration.
use Rattle.std.proofs.Common.{Bool, true, ◌≡◌, ℕ, zero, suc, ◌<◌, inl, inr, List, [], ◌∷◌}
use Rattle.std.proofs.Common.{length, replicate, get_or, set, refl, sym, ap, ap₂, ◌∙◌, subst, arith}
use Rattle.std.proofs.lemmas.Bool.{cases_eq}
use Rattle.std.proofs.lemmas.List.{length-set, get_or-set_same}
use Rattle.std.proofs.lemmas.List.{get_or-set_other, get_or-replicate, length-replicate}
use Rattle.sync_types.specs.States.{State, zero_state, zero_register}
use Rattle.construction.specs.Steps.{state_of}
use Rattle.state_codec.specs.Ranges.{InRange}
use Rattle.state_codec.specs.Reading.{read}
use Rattle.state_codec.proofs.Ranged.{zero_in_range, read_is_in_range}
use Rattle.counter_core.specs.declared.work.Work.{Work}
use Rattle.counter_core.proofs.StateLists.{within}
use Rattle.counter_core.specs.Working.{IsWorkFor, IsAsRoomy}
use Rattle.machines.specs.Machines.{Machine, IsState, IsConfiguration}
use Rattle.machines.specs.Laws.{IsSound}
use Rattle.node_stepper.specs.Kept.{IsValidEngine}

-- a node is put into a state
pub set_state : (m : Machine) (states : List State) → IsConfiguration m states → (v : ℕ) (s : State)
    → v < m.nodes → IsState m v s → IsConfiguration m (set states v s)
set_state m states is v s node has = record {
  size = length-set states v s ∙ is.size;
  states = λ u lt. elim (cases_eq u v) [
    | inl at ↦ subst (λ (w : ℕ). IsState m w (state_of (set states v s) w)) (sym at)
        (subst (IsState m v)
        (sym (get_or-set_same states v s (zero_state 0) (omega (arith, node, is.size)))) has)
    | inr other ↦
        subst (IsState m u) (sym (get_or-set_other states v u s (zero_state 0) other))
        (is.states u lt)
  ];
}

module _ (m : Machine) (sound : IsSound m) where
  -- a state of a node has the machine's registers
  pub deep : (v : ℕ) → v < m.nodes → (s : State) → IsState m v s → length s.registers ≡ m.depth
  deep v node s is = is.depth ∙ sound.depth v node

  -- any bytes are read as one
  pub read_is_state : (v : ℕ) → v < m.nodes → (bytes : List ℕ)
      → IsState m v (read (m.fields v) bytes)
  read_is_state v node bytes =
      read_is_in_range (m.fields v) bytes (sound.fields v node)

  zero_is_state : (v : ℕ) → v < m.nodes → IsState m v (zero_state m.depth)
  zero_is_state v node =
      subst (λ n. InRange (m.fields v) (zero_state n)) (sound.depth v node)
      (zero_in_range (m.fields v) (sound.fields v node))

  zeros_are : IsConfiguration m (replicate m.nodes (zero_state m.depth))
  zeros_are = record {
    size = length-replicate m.nodes (zero_state m.depth);
    states = λ v lt. subst (IsState m v)
        (sym (get_or-replicate m.nodes v (zero_state m.depth) (zero_state 0) lt))
        (zero_is_state v lt);
  }

-- ---- what an engine keeps

module _ (m : Machine) (id : ℕ) (states : List State) (since : List Bool) (next : State)
    (work : Work) (kept : IsValidEngine m id states since next work) where
  -- a state that is read at a place
  pub place_of : (v : ℕ) → v < m.nodes → (s : State) → s ≡ get_or states v s
      → s ≡ state_of states v
  place_of v lt s is = is
      ∙ within states v s (zero_state 0) (let e = kept.among.size in omega (arith, e, lt))

  pub depth_of : (v : ℕ) → v < m.nodes → (s : State) → s ≡ get_or states v s
      → length s.registers ≡ m.depth
  depth_of v lt s is =
      ap (λ (t : State). length t.registers) (place_of v lt s is)
      ∙ deep m kept.sound v lt (state_of states v) (kept.among.states v lt)

  pub state_at : (v : ℕ) → v < m.nodes → (s : State) → s ≡ state_of states v → IsState m v s
  state_at v lt s is = subst (IsState m v) (sym is) (kept.among.states v lt)

  -- it hears a node
  pub kept_hearing : (v : ℕ) → v < m.nodes → (s : State) (bytes : List ℕ)
      → s ≡ read (m.fields v) bytes → IsValidEngine m id (set states v s)
      (set since v true) next work
  kept_hearing v lt s bytes is = record {
    sound = kept.sound;
    node = kept.node;
    among = set_state m states kept.among v s lt
        (subst (IsState m v) (sym is) (read_is_state m kept.sound v lt bytes));
    marks = length-set since v true ∙ kept.marks;
    room = kept.room;
    ready = kept.ready;
  }

  -- it steps
  module _ (heard : List State) (same : heard ≡ states) (out : State) (is : out ≡ m.step id heard)
    where
      own : IsState m id out
      own = subst (IsState m id) (sym is) (kept.sound.next id kept.node heard)

      pub room_again : (s : State) → s ≡ get_or states id s
          → length out.registers ≡ length s.registers
      room_again s s_is = deep m kept.sound id kept.node out own
          ∙ sym (depth_of id kept.node s s_is)

      pub stepping : (self : State) → self ≡ out → (marks : List Bool) → length marks ≡ m.nodes
          → (roomy : Work) → IsAsRoomy work roomy
          → IsValidEngine m id (set states id self) marks out roomy
      stepping self self_is marks size roomy same_room =
          let ready = kept.ready in record {
            sound = kept.sound;
            node = kept.node;
            among = set_state m states kept.among id self kept.node
                (subst (IsState m id) (sym self_is) own);
            marks = size;
            room = deep m kept.sound id kept.node out own;
            ready = record {
              outputs = rw (same_room.outputs) ready.outputs;
              values = rw (same_room.values) ready.values;
              votes = rw (same_room.votes) ready.votes;
            };
          }

-- an engine that has heard nothing
pub begun_kept : (m : Machine) (id nodes depth : ℕ) (state own : State) (states : List State)
    (since : List Bool) (next : State) (work : Work)
    → IsSound m → id < m.nodes → IsState m id state → nodes ≡ m.nodes → depth ≡ m.depth
    → states ≡ replicate nodes (zero_state depth) → own ≡ state → length since ≡ nodes
    → next ≡ zero_state depth → IsWorkFor nodes work
    → IsValidEngine m id (set states id own) since next work
begun_kept m id nodes depth state own states since next work sound node is count registers zeros
    own_is marks next_is ready =
    let all : states ≡ replicate m.nodes (zero_state m.depth) =
    zeros ∙ ap₂ (λ (n d : ℕ). replicate n (zero_state d)) count registers in
    record {
      sound = sound;
      node = node;
      among = set_state m states
          (subst (IsConfiguration m) (sym all) (zeros_are m sound)) id own node
          (subst (IsState m id) (sym own_is) is);
      marks = marks ∙ count;
      room = ap (λ (s : State). length s.registers) next_is ∙ length-replicate depth zero_register
          ∙ registers;
      ready = subst (λ n. IsWorkFor n work) count ready;
    }

-- a state that a node begins with has the room of a zero state
pub begun_room : (m : Machine) (id nodes depth : ℕ) (state own : State) (states : List State)
    → IsSound m → id < m.nodes → IsState m id state → nodes ≡ m.nodes → depth ≡ m.depth
    → states ≡ replicate nodes (zero_state depth) → own ≡ get_or states id own
    → length state.registers ≡ length own.registers
begun_room m id nodes depth state own states sound node is count registers zeros own_is =
    let zero : own ≡ zero_state depth =
    own_is ∙ ap (λ (l : List State). get_or l id own) zeros
    ∙ get_or-replicate nodes id (zero_state depth) own (omega (arith, node, count)) in
    deep m sound id node state is ∙ sym (ap (λ (s : State). length s.registers) zero
    ∙ length-replicate depth zero_register ∙ registers)
