-- The rounds of a window: the states of the correct nodes, as the configurations of a run.
use Rattle.std.proofs.Common.{◌≡◌, ℕ, ◌+◌, ◌<◌, ◌≤◌, Bool, true, false, cond, List, [], length, map}
use Rattle.std.proofs.Common.{take, get_or, All, refl, sym, ap, ◌∙◌, subst, arith}
use Rattle.std.specs.Prelude.{if◌then◌else◌}
use Rattle.std.specs.List.{range_with_len}
use Rattle.std.proofs.lemmas.List.{take_more}
use Rattle.std.proofs.lemmas.List.Elements.{All-from_get_or}
use Rattle.std.proofs.lemmas.List.FromFn.{length-map-range_with_len, get_or-map-range_with_len}
use Rattle.sync_types.specs.States.{State, zero_state}
use Rattle.construction.specs.Steps.{state_of}
use Rattle.construction.specs.Runs.{is_in, configuration}
use Rattle.state_codec.specs.Reading.{read}
use Rattle.machines.specs.Machines.{Machine, IsState, IsConfiguration}
use Rattle.machines.specs.Laws.{IsSound}
use Rattle.node_stepper.specs.Nodes.{heard_in, state_behind}
use Rattle.node_stepper.specs.NodeRuns.{Nodes, IsCorrect, state_at, state_in, states_in}
use Rattle.node_stepper.proofs.NodeTexts.{state_push}
use Rattle.node_stepper.proofs.States.{read_is_state, behind_is_state}
use Rattle.node_stepper.proofs.Follows.{Follows}

-- a list that is made place by place
pub placed : {X : Type 0} (P : ℕ → X → Type 0) (f : ℕ → X) (n : ℕ) (d : X)
    → ((i : ℕ) → i < n → P i (f i))
    → (i : ℕ) → i < n → P i (get_or (map f (range_with_len 0 n)) i d)
placed P f n d holds i lt =
    subst (P i) (sym (get_or-map-range_with_len f 0 n i i d lt (omega arith))) (holds i lt)

-- the correct nodes have packets to the end of the window
pub record Reach (m : Machine) (faulty : List ℕ) (nodes : Nodes) (begins : ℕ → ℕ) (rounds : ℕ)
    : Type 0 where
  pub starts : (v : ℕ) → IsCorrect m faulty v → IsState m v (nodes.starts v)
  pub enough : (v : ℕ) → IsCorrect m faulty v → begins v + rounds ≤ length (nodes.packets v)

module _ (m : Machine) (sound : IsSound m) (faulty : List ℕ) (nodes : Nodes)
    (begins : ℕ → ℕ) (rounds : ℕ) (reach : Reach m faulty nodes begins rounds) where
  abbrev n : ℕ
  n = m.nodes

  -- what node v hears in a round
  abbrev pub hears : (i v : ℕ) → List State
  hears i v =
      heard_in m v (state_in m nodes begins i v) (get_or (nodes.packets v) (begins v + i) [])

  -- a node's state after one more round
  next_is : (i v : ℕ) → i < rounds → IsCorrect m faulty v
      → state_in m nodes begins (i + 1) v ≡ m.step v (hears i v)
  next_is i v lt correct =
      let t = begins v + i in
      let packets = nodes.packets v in
      let enough = reach.enough v correct in
      let later : begins v + (i + 1) ≡ begins v + i + 1 = omega arith in
      let there : begins v + i < length (nodes.packets v) = omega arith in
      ap (λ k. state_at m nodes k v) later
      ∙ ap (state_behind m v (nodes.starts v)) (take_more packets t [] there)
      ∙ state_push m v (nodes.starts v) (take t packets) (get_or packets t [])

  -- it is one of the node
  pub in_is_state : (i v : ℕ) → IsCorrect m faulty v → IsState m v (state_in m nodes begins i v)
  in_is_state i v correct =
      behind_is_state m sound v correct.0 (nodes.starts v) (take (begins v + i) (nodes.packets v))
      (reach.starts v correct)

  -- the configurations: faulty nodes are in any state of theirs
  abbrev place : (i v : ℕ) → State
  place i v = if is_in faulty v then read (m.fields v) [] else state_in m nodes begins i v

  abbrev pub config : (i : ℕ) → List State
  config i = map (place i) (range_with_len 0 n)

  abbrev pub run : List (List State)
  run = map config (range_with_len 0 (rounds + 1))

  place_by : (i v : ℕ) → v < n → (b : Bool) → is_in faulty v ≡ b
      → IsState m v (cond b (read (m.fields v) []) (state_in m nodes begins i v))
  place_by i v lt true is = read_is_state m sound v lt []
  place_by i v lt false is = in_is_state i v (lt, is)

  config_is_one : (i : ℕ) → IsConfiguration m (config i)
  config_is_one i = record {
    size = length-map-range_with_len (place i) 0 n;
    states =
        placed (IsState m) (place i) n (zero_state 0)
        (λ v lt. place_by i v lt (is_in faulty v) refl);
  }

  -- a correct node's state in a configuration
  pub state_is : (i v : ℕ) → IsCorrect m faulty v
      → state_of (config i) v ≡ state_in m nodes begins i v
  state_is i v correct =
      get_or-map-range_with_len (place i) 0 n v v (zero_state 0) correct.0 (omega arith)
      ∙ ap (λ b. cond b (read (m.fields v) []) (state_in m nodes begins i v)) correct.1

  pub step_is : (i v : ℕ) → i < rounds → IsCorrect m faulty v
      → state_of (config (i + 1)) v ≡ m.step v (hears i v)
  step_is i v lt correct = state_is (i + 1) v correct ∙ next_is i v lt correct

  pub configuration_is : (i : ℕ) → i ≤ rounds → configuration run i ≡ config i
  configuration_is i le =
      get_or-map-range_with_len config 0 (rounds + 1) i i [] (omega arith) (omega arith)

  pub long : length run ≡ rounds + 1
  long = length-map-range_with_len config 0 (rounds + 1)

  each_is_one : (i : ℕ) → i < length run → IsConfiguration m (get_or run i [])
  each_is_one i lt =
      let within : i ≤ rounds = omega (arith, long) in
      subst (IsConfiguration m) (sym (configuration_is i within)) (config_is_one i)

  pub configurations : All (IsConfiguration m) run
  configurations = All-from_get_or (IsConfiguration m) run [] each_is_one

  pub follows : Follows m faulty (states_in m nodes begins) rounds run
  follows = record {
    long = long;
    states = λ i v le correct.
        ap (λ (here : List State). state_of here v) (configuration_is i le)
        ∙ state_is i v correct
        ∙ sym (get_or-map-range_with_len (state_in m nodes begins i) 0 n v v (zero_state 0)
        correct.0 (omega arith));
  }
