-- Nodes of which one ends after some rounds: it has the packets of these, the others those of all.
use Rattle.std.proofs.Common.{◌≡◌, ℕ, ◌+◌, ◌<◌, ◌≤◌, Bool, true, false, cond, List, [], length}
use Rattle.std.proofs.Common.{take, get_or, refl, sym, ap, ◌∙◌, arith}
use Rattle.std.specs.Prelude.{◌==◌}
use Rattle.std.proofs.lemmas.Bool.{eqb-false, eq-eqb, ne_eqb}
use Rattle.sync_types.specs.States.{State}
use Rattle.state_codec.specs.Writing.{written}
use Rattle.machines.specs.Machines.{Machine, IsState}
use Rattle.node_stepper.specs.Nodes.{state_behind}
use Rattle.node_stepper.specs.Laws.{AreFull}
use Rattle.node_stepper.specs.NodeRuns.{Nodes, cell_given, IsCorrect, state_at, state_in}
use Rattle.node_stepper.specs.Restarts.{begins_later, AreFaultyMeanwhile, ResumptionConnects}
use Rattle.node_stepper.proofs.Restarts.{apart}
use Rattle.node_stepper.specs.Packets.{most_packets}
use Rattle.node_words.proofs.InputTexts.{AreFed}

module _ (m : Machine) (faulty meanwhile : List ℕ) (node after : ℕ)
    (too : AreFaultyMeanwhile node faulty meanwhile) (right : IsCorrect m faulty node)
    (starts : ℕ → State) (sent : ℕ → ℕ → ℕ → List ℕ) (begins : ℕ → ℕ) (rounds : ℕ)
    (r : ResumptionConnects m faulty meanwhile node after starts sent begins rounds) where
  abbrev pub first : Nodes
  first = r.before.nodes

  abbrev pub second : Nodes
  second = r.restart.rest.nodes

  abbrev pub last : State
  last = state_in m first begins after node

  abbrev pub old : Nodes
  old = record {
    starts = starts;
    packets = λ v. cond (v == node) (first.packets v) (second.packets v);
  }

  abbrev pub count : ℕ → ℕ
  count v = cond (v == node) (begins v + after) (begins v + (after + rounds))

  pub other : (v : ℕ) → IsCorrect m meanwhile v → (v == node) ≡ false
  other v correct = ne_eqb v node (apart m faulty meanwhile node too v correct)

  all_time : (v : ℕ) → IsCorrect m faulty v → (v == node) ≡ false → IsCorrect m meanwhile v
  all_time v correct is = (correct.0, too.others v (eqb-false v node is) ∙ correct.1)

  packets_first : (v : ℕ) → (v == node) ≡ true → old.packets v ≡ first.packets v
  packets_first v it = ap (λ b. cond b (first.packets v) (second.packets v)) it

  pub packets_second : (v : ℕ) → (v == node) ≡ false → old.packets v ≡ second.packets v
  packets_second v is = ap (λ b. cond b (first.packets v) (second.packets v)) is

  pub starts_second : (v : ℕ) → (v == node) ≡ false → starts v ≡ second.starts v
  starts_second v is =
      sym (ap (λ (s : ℕ → State). s v) r.restart.rest.begin
      ∙ ap (λ b. cond b last (starts v)) is)

  state_as : (nodes : Nodes) (v : ℕ) → starts v ≡ nodes.starts v
      → old.packets v ≡ nodes.packets v → (t : ℕ) → state_at m old t v ≡ state_at m nodes t v
  state_as nodes v begun same t =
      ap (λ (s : State). state_behind m v s (take t (old.packets v))) begun
      ∙ ap (λ (ps : List (List (List ℕ))). state_behind m v (nodes.starts v) (take t ps)) same

  cell_as : (nodes : Nodes) (v : ℕ) → old.packets v ≡ nodes.packets v → (t u : ℕ)
      → cell_given old t v u ≡ cell_given nodes t v u
  cell_as nodes v same t u = ap (λ (ps : List (List (List ℕ))). get_or (get_or ps t []) u []) same

  -- all are as in the first rounds there
  state_first : (t v : ℕ) → t ≤ begins v + after → IsCorrect m faulty v → (b : Bool)
      → (v == node) ≡ b → state_at m old t v ≡ state_at m first t v
  state_first t v le correct true it =
      state_as first v (sym (ap (λ (s : ℕ → State). s v) r.before.begin)) (packets_first v it) t
  state_first t v le correct false is =
      state_as second v (starts_second v is) (packets_second v is) t
      ∙ r.same_states t v le (all_time v correct is)

  pub cell_first : (t v u : ℕ) → t < begins v + after → IsCorrect m faulty v → u < m.nodes
      → (b : Bool) → (v == node) ≡ b → cell_given old t v u ≡ cell_given first t v u
  cell_first t v u lt correct ult true it = cell_as first v (packets_first v it) t u
  cell_first t v u lt correct ult false is =
      cell_as second v (packets_second v is) t u ∙ r.same t v u lt (all_time v correct is) ult

  -- the others as in all rounds
  pub cell_second : (t v u : ℕ) → IsCorrect m meanwhile v
      → cell_given old t v u ≡ cell_given second t v u
  cell_second t v u correct = cell_as second v (packets_second v (other v correct)) t u

  pub wrote_first : (i v u : ℕ) → i < after → IsCorrect m faulty v → IsCorrect m faulty u
      → cell_given old (begins v + i) v u
      ≡ written (m.fields u) (state_at m old (begins u + i) u)
  wrote_first i v u lt v_correct u_correct =
      cell_first (begins v + i) v u (omega arith) v_correct u_correct.0 (v == node) refl
      ∙ r.before.wrote i v u lt u_correct
      ∙ ap (written (m.fields u))
      (sym (state_first (begins u + i) u (omega arith) u_correct (u == node) refl))

  pub wrote_all : (i v u : ℕ) → i < after + rounds → IsCorrect m meanwhile v
      → IsCorrect m meanwhile u
      → cell_given old (begins v + i) v u
      ≡ written (m.fields u) (state_at m old (begins u + i) u)
  wrote_all i v u lt v_correct u_correct =
      let is = other u u_correct in
      cell_second (begins v + i) v u v_correct
      ∙ r.restart.wrote i v u lt v_correct u_correct
      ∙ ap (written (m.fields u))
      (sym (state_as second u (starts_second u is) (packets_second u is) (begins u + i)))

  it : (node == node) ≡ true
  it = eq-eqb node node refl

  -- the node is last in the state in which it goes on
  pub old_last : state_at m old (begins node + after) node ≡ last
  old_last = state_first (begins node + after) node (omega arith) right (node == node) refl

  pub begun_last : second.starts node ≡ last
  begun_last =
      ap (λ (s : ℕ → State). s node) r.restart.rest.begin
      ∙ ap (λ b. cond b last (starts node)) it

  pub count_is : count node ≡ begins node + after
  count_is = ap (λ b. cond b (begins node + after) (begins node + (after + rounds))) it

  pub later_is : begins_later node after begins node + rounds ≡ rounds
  later_is = ap (λ b. cond b 0 (begins node + after) + rounds) it ∙ omega arith

  pub count_other : (v : ℕ) → IsCorrect m meanwhile v → count v ≡ begins v + (after + rounds)
  count_other v correct =
      ap (λ b. cond b (begins v + after) (begins v + (after + rounds))) (other v correct)

  enough_by : (v : ℕ) (b : Bool)
      → begins v + after ≤ cond b (begins v + after) (begins v + (after + rounds))
  enough_by v true = omega arith
  enough_by v false = omega arith

  pub enough : (v : ℕ) → begins v + after ≤ count v
  enough v = enough_by v (v == node)

  -- ---- they are fed

  long_by : (v : ℕ) (b : Bool) → (v == node) ≡ b
      → length (cond b (first.packets v) (second.packets v))
      ≡ cond b (begins v + after) (begins v + (after + rounds))
  long_by v true is = r.before.long v
  long_by v false is =
      let from : begins_later node after begins v ≡ begins v + after =
      ap (λ b. cond b 0 (begins v + after)) is in
      omega (arith, r.restart.rest.long v, from)

  full_by : (v : ℕ) (b : Bool) → AreFull m.nodes (cond b (first.packets v) (second.packets v))
  full_by v true = r.before.full v
  full_by v false = r.restart.rest.full v

  few_by : (v most : ℕ) → begins v + (after + rounds) ≤ most → (b : Bool)
      → cond b (begins v + after) (begins v + (after + rounds)) ≤ most
  few_by v most few true = omega (arith, few)
  few_by v most few false = few

  pub fed_old : ((v : ℕ) → begins v + (after + rounds) ≤ most_packets)
      → ((v : ℕ) → IsCorrect m faulty v → IsState m v (starts v)) → AreFed m faulty old count
  fed_old few begun = record {
    starts = begun;
    long = λ v correct. long_by v (v == node) refl;
    full = λ v correct. full_by v (v == node);
    few = λ v correct. few_by v most_packets (few v) (v == node);
  }
