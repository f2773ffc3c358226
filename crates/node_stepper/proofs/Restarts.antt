-- Nodes of which one is started anew: first the rounds before are played, then, with what was given
-- in these before the window of each, the rounds of all.
use Rattle.std.proofs.Common.{◌≡◌, ◌≢◌, ℕ, zero, suc, ◌+◌, ◌-◌, ◌<◌, ◌≤◌, Bool, true, false, cond}
use Rattle.std.proofs.Common.{inl, inr, List, [], length, take, get_or, add-one, refl, sym, ap}
use Rattle.std.proofs.Common.{◌∙◌, subst, arith}
use Rattle.std.specs.Prelude.{◌==◌, nat_lt, if◌then◌else◌}
use Rattle.std.proofs.lemmas.Bool.{cases_lt, eqb-true, eqb-false, ne_eqb, eq-eqb, lt-ltb}
use Rattle.std.proofs.lemmas.Bool.{le-ltb, ltb-true}
use Rattle.std.proofs.lemmas.List.{take_more}
use Rattle.sync_types.specs.States.{State}
use Rattle.construction.specs.Runs.{is_in}
use Rattle.state_codec.specs.Reading.{read}
use Rattle.state_codec.specs.Writing.{written}
use Rattle.machines.specs.Machines.{Machine, IsState}
use Rattle.machines.specs.Laws.{IsSound}
use Rattle.node_stepper.specs.Nodes.{state_after, state_behind}
use Rattle.node_stepper.proofs.NodeTexts.{state_push}
use Rattle.node_stepper.specs.Bytes.{FitsCell, StatesFit, AllFit}
use Rattle.node_stepper.specs.NodeRuns.{Nodes, cell_given, IsCorrect, state_at, state_in}
use Rattle.node_stepper.specs.NodeRuns.{AreConnected}
use Rattle.node_stepper.specs.RunLaws.{Connects}
use Rattle.node_stepper.specs.Restarts.{begins_later, AreFaultyMeanwhile, RestartConnects}
use Rattle.node_stepper.specs.Restarts.{AnyRestartConnects, starts_later, ResumptionConnects}
use Rattle.node_stepper.specs.Restarts.{AnyResumptionConnects}
use Rattle.node_stepper.proofs.Connected.{lies_connect}
use Rattle.node_stepper.proofs.Fitting.{cells_fit}
use Rattle.node_stepper.proofs.States.{reads_back, behind_is_state, same_heard}

-- ---- a node with the same cells is in the same state

module _ (m : Machine) (one other : Nodes) (v : ℕ) (begin : one.starts v ≡ other.starts v) where
  next_at : (nodes : Nodes) (t : ℕ) → t < length (nodes.packets v)
      → state_at m nodes (t + 1) v
      ≡ state_after m v (state_at m nodes t v) (get_or (nodes.packets v) t [])
  next_at nodes t lt =
      ap (state_behind m v (nodes.starts v)) (take_more (nodes.packets v) t [] lt)
      ∙ state_push m v (nodes.starts v) (take t (nodes.packets v)) (get_or (nodes.packets v) t [])

  module _ (end : ℕ) (enough : end ≤ length (one.packets v))
      (enough_too : end ≤ length (other.packets v))
      (same : (t u : ℕ) → t < end → u < m.nodes → cell_given one t v u ≡ cell_given other t v u)
    where
      same_next : (t : ℕ) → t < end → state_at m one t v ≡ state_at m other t v
          → state_at m one (t + 1) v ≡ state_at m other (t + 1) v
      same_next t lt is =
          next_at one t (omega (arith, enough))
          ∙ ap (λ (s : State). state_after m v s (get_or (one.packets v) t [])) is
          ∙ ap (m.step v)
          (same_heard m v (state_at m other t v) (get_or (one.packets v) t [])
          (get_or (other.packets v) t []) (λ u ult. same t u lt ult))
          ∙ sym (next_at other t (omega (arith, enough_too)))

      pub same_at : (t : ℕ) → t ≤ end → state_at m one t v ≡ state_at m other t v
      same_at zero le = begin
      same_at (suc t) le =
          subst (λ k. state_at m one k v ≡ state_at m other k v) (add-one t)
          (same_next t (omega arith) (same_at t (omega arith)))

-- ---- a node that is correct all the time

other_node : (node v : ℕ) (meanwhile : List ℕ) → is_in meanwhile node ≡ true
    → is_in meanwhile v ≡ false → v ≢ node
other_node node v meanwhile own correct is =
    let both : true ≡ false = sym own ∙ ap (is_in meanwhile) (sym is) ∙ correct in absurd cc

module _ (m : Machine) (faulty meanwhile : List ℕ) (node : ℕ)
    (too : AreFaultyMeanwhile node faulty meanwhile) where
  pub apart : (v : ℕ) → IsCorrect m meanwhile v → v ≢ node
  apart v correct = other_node node v meanwhile too.own correct.1

  pub correct_too : (v : ℕ) → IsCorrect m meanwhile v → IsCorrect m faulty v
  correct_too v correct = (correct.0, sym (too.others v (apart v correct)) ∙ correct.1)

  -- a node that is faulty in the rest is so all the time
  faulty_too : (u : ℕ) → is_in faulty u ≡ true → (b : Bool) → (u == node) ≡ b
      → is_in meanwhile u ≡ true
  faulty_too u is true it = ap (is_in meanwhile) (eqb-true u node it) ∙ too.own
  faulty_too u is false other = too.others u (eqb-false u node other) ∙ is

-- The rounds before are those of any nodes among which the ones that are correct all the time are
-- correct, and each that is faulty in the rest is faulty. After them the node begins in any state.
record Before (m : Machine) (faulty meanwhile : List ℕ) (node after : ℕ) (starts : ℕ → State)
    (sent : ℕ → ℕ → ℕ → List ℕ) (begins : ℕ → ℕ) : Type 0 where
  away : List ℕ
  correct : (v : ℕ) → IsCorrect m meanwhile v → IsCorrect m away v
  faulty_too : (u : ℕ) → is_in faulty u ≡ true → is_in away u ≡ true
  starts_first : ℕ → State
  same : (v : ℕ) → v ≢ node → starts v ≡ starts_first v
  is : Connects m away starts_first sent begins after

module _ (m : Machine) (sound : IsSound m) (faulty meanwhile : List ℕ) (node after : ℕ)
    (too : AreFaultyMeanwhile node faulty meanwhile) (starts : ℕ → State)
    (sent : ℕ → ℕ → ℕ → List ℕ) (begins : ℕ → ℕ) (rounds : ℕ)
    (begun : (v : ℕ) → IsCorrect m faulty v → IsState m v (starts v))
    (past : Before m faulty meanwhile node after starts sent begins) where
  abbrev later : ℕ → ℕ
  later = begins_later node after begins

  -- such a node is not the one that is started anew
  is_other : (v : ℕ) → IsCorrect m meanwhile v → (v == node) ≡ false
  is_other v correct = ne_eqb v node (apart m faulty meanwhile node too v correct)

  later_is : (v : ℕ) → IsCorrect m meanwhile v → later v ≡ begins v + after
  later_is v correct = ap (λ b. cond b 0 (begins v + after)) (is_other v correct)

  abbrev before : Nodes
  before = past.is.nodes

  -- what is given in the rounds before is sent before the window of the rest
  abbrev sent_on : ℕ → ℕ → ℕ → List ℕ
  sent_on t v u = if nat_lt t (begins v + after) then cell_given before t v u else sent t v u

  abbrev sent_later : ℕ → ℕ → ℕ → List ℕ
  sent_later t v u =
      if v == node then sent (begins v + after + t) v u else sent_on t v u

  abbrev rest : Connects m faulty starts sent_later later rounds
  rest = lies_connect m sound faulty starts sent_later later rounds begun

  module _ (v : ℕ) (correct : IsCorrect m meanwhile v) where
    sent_is : (t u : ℕ) → sent_later t v u ≡ sent_on t v u
    sent_is t u =
        ap (λ b. cond b (sent (begins v + after + t) v u) (sent_on t v u)) (is_other v correct)

    early : (t u : ℕ) → t < begins v + after → u < m.nodes
        → cell_given rest.nodes t v u ≡ cell_given before t v u
    early t u lt ult =
        let at = later_is v correct in
        rest.given t v u (omega (arith, at, lt)) ult (inl (omega (arith, at, lt)))
        ∙ sent_is t u
        ∙ ap (λ b. cond b (cell_given before t v u) (sent t v u))
        (lt-ltb t (begins v + after) lt)

    same_before : (t : ℕ) → t ≤ begins v + after
        → state_at m rest.nodes t v ≡ state_at m before t v
    same_before t le =
        same_at m rest.nodes before v
        (ap (λ (s : ℕ → State). s v) rest.begin
        ∙ past.same v (apart m faulty meanwhile node too v correct)
        ∙ sym (ap (λ (s : ℕ → State). s v) past.is.begin)) (begins v + after)
        (let at = later_is v correct in let long = rest.long v in omega (arith, at, long))
        (let long = past.is.long v in omega (arith, long)) early t le

  wrote_before : (i v u : ℕ) → i < after → IsCorrect m meanwhile v → IsCorrect m meanwhile u
      → cell_given rest.nodes (begins v + i) v u
      ≡ written (m.fields u) (state_in m rest.nodes begins i u)
  wrote_before i v u lt correct other =
      early v correct (begins v + i) u (omega arith) other.0
      ∙ past.is.wrote i v u lt (past.correct u other)
      ∙ ap (written (m.fields u)) (sym (same_before u other (begins u + i) (omega arith)))

  wrote_after : (i v u : ℕ) → after ≤ i → i < after + rounds → IsCorrect m meanwhile v
      → IsCorrect m meanwhile u → cell_given rest.nodes (begins v + i) v u
      ≡ written (m.fields u) (state_in m rest.nodes begins i u)
  wrote_after i v u le lt correct other =
      let at : later v + (i - after) ≡ begins v + i = omega (arith, later_is v correct, le) in
      let there : later u + (i - after) ≡ begins u + i = omega (arith, later_is u other, le) in
      ap (λ t. cell_given rest.nodes t v u) (sym at)
      ∙ rest.wrote (i - after) v u (omega arith) (correct_too m faulty meanwhile node too u other)
      ∙ ap (λ t. written (m.fields u) (state_at m rest.nodes t u)) there

  wrote : (i v u : ℕ) → i < after + rounds → IsCorrect m meanwhile v → IsCorrect m meanwhile u
      → cell_given rest.nodes (begins v + i) v u
      ≡ written (m.fields u) (state_in m rest.nodes begins i u)
  wrote i v u lt correct other = elim (cases_lt i after) [
    | inl early ↦ wrote_before i v u early correct other
    | inr late ↦ wrote_after i v u (omega (arith, late)) lt correct other
  ]

  given : (t v u : ℕ) → t < begins v + (after + rounds) → IsCorrect m meanwhile v → u < m.nodes
      → is_in faulty u ≡ true → cell_given rest.nodes t v u ≡ sent t v u
  given t v u lt correct ult is = elim (cases_lt t (begins v + after)) [
    | inl before_it ↦
        early v correct t u before_it ult
        ∙ past.is.given t v u before_it ult (inr (past.faulty_too u is))
    | inr late ↦
        rest.given t v u (let at = later_is v correct in omega (arith, at, lt)) ult (inr is)
        ∙ sent_is v correct t u
        ∙ ap (λ b. cond b (cell_given before t v u) (sent t v u))
        (le-ltb t (begins v + after) (omega (arith, late)))
  ]

  -- to the node that is started anew
  given_anew : (i u : ℕ) → i < rounds → u < m.nodes → is_in faulty u ≡ true
      → cell_given rest.nodes i node u ≡ sent (begins node + after + i) node u
  given_anew i u lt ult is =
      let it : (node == node) ≡ true = eq-eqb node node refl in
      let from : later node ≡ 0 = ap (λ b. cond b 0 (begins node + after)) it in
      rest.given i node u (omega (arith, from, lt)) ult (inr is)
      ∙ ap (λ b. cond b (sent (begins node + after + i) node u) (sent_on i node u)) it

  -- what is sent in the rest fits into cells, if all that is sent does
  fit : StatesFit m → AllFit m sent → AllFit m sent_later
  fit short fits t v u ult = by (v == node) (nat_lt t (begins v + after)) refl where
    by : (anew early : Bool) → nat_lt t (begins v + after) ≡ early
        → FitsCell (if anew then sent (begins v + after + t) v u
        else if early then cell_given before t v u else sent t v u)
    by true early is = fits (begins v + after + t) v u ult
    by false true is =
        cells_fit m short past.away past.starts_first sent begins after fits past.is t v u
        (ltb-true t (begins v + after) is) ult
    by false false is = fits t v u ult

  begun_rest : (v : ℕ) → IsCorrect m meanwhile v → IsState m v (rest.nodes.starts v)
  begun_rest v correct =
      subst (λ (s : ℕ → State). IsState m v (s v)) (sym rest.begin)
      (begun v (correct_too m faulty meanwhile node too v correct))

  all : AreConnected m meanwhile rest.nodes begins (after + rounds)
  all = record {
    starts = begun_rest;
    enough = λ v correct.
        let at = later_is v correct in
        let long = rest.long v in
        omega (arith, at, long);
    cells = λ i v u lt correct other different.
        ap (read (m.fields u)) (wrote i v u lt correct other)
        ∙ reads_back m sound u other.0 (state_in m rest.nodes begins i u)
        (behind_is_state m sound u other.0 (rest.nodes.starts u)
        (take (begins u + i) (rest.nodes.packets u)) (begun_rest u other));
  }

  abbrev restart_connects : RestartConnects m faulty meanwhile node after starts sent begins rounds
  restart_connects = record {
    sent_later = sent_later;
    rest = rest;
    all = all;
    wrote = wrote;
    given = given;
    given_anew = given_anew;
    fit = fit;
  }

-- ---- the node is away before

pub any_restart_connects : AnyRestartConnects
any_restart_connects m sound faulty meanwhile node after too starts sent begins rounds begun =
    restart_connects m sound faulty meanwhile node after too starts sent begins rounds begun
    (record {
      away = meanwhile;
      correct = λ v correct. correct;
      faulty_too = λ u is. faulty_too m faulty meanwhile node too u is (u == node) refl;
      starts_first = starts;
      same = λ v other. refl;
      is = lies_connect m sound meanwhile starts sent begins after
          (λ v correct. begun v (correct_too m faulty meanwhile node too v correct));
    })

-- ---- the node is correct before, and goes on from its last state

module _ (m : Machine) (sound : IsSound m) (faulty meanwhile : List ℕ) (node after : ℕ)
    (too : AreFaultyMeanwhile node faulty meanwhile) (correct : IsCorrect m faulty node)
    (starts : ℕ → State) (sent : ℕ → ℕ → ℕ → List ℕ) (begins : ℕ → ℕ) (rounds : ℕ)
    (begun : (v : ℕ) → IsCorrect m faulty v → IsState m v (starts v)) where
  abbrev first : Connects m faulty starts sent begins after
  first = lies_connect m sound faulty starts sent begins after begun

  abbrev last : State
  last = state_in m first.nodes begins after node

  last_is_state : IsState m node last
  last_is_state =
      behind_is_state m sound node correct.0 (first.nodes.starts node)
      (take (begins node + after) (first.nodes.packets node))
      (subst (λ (s : ℕ → State). IsState m node (s node)) (sym first.begin) (begun node correct))

  begun_later : (v : ℕ) → IsCorrect m faulty v → (b : Bool) → (v == node) ≡ b
      → IsState m v (cond b last (starts v))
  begun_later v right true it =
      subst (λ u. IsState m u last) (sym (eqb-true v node it)) last_is_state
  begun_later v right false other = begun v right

  abbrev past : Before m faulty meanwhile node after (starts_later node last starts) sent begins
  past = record {
    away = faulty;
    correct = correct_too m faulty meanwhile node too;
    faulty_too = λ u is. is;
    starts_first = starts;
    same = λ v other. ap (λ b. cond b last (starts v)) (ne_eqb v node other);
    is = first;
  }

  pub resumption_connects : ResumptionConnects m faulty meanwhile node after starts sent begins
      rounds
  resumption_connects = record {
    before = first;
    restart = restart_connects m sound faulty meanwhile node after too
        (starts_later node last starts) sent begins rounds
        (λ v right. begun_later v right (v == node) refl) past;
    same = λ t v u lt right ult.
        early m sound faulty meanwhile node after too (starts_later node last starts) sent begins
        rounds (λ w right_too. begun_later w right_too (w == node) refl) past v right t u lt ult;
    same_states = λ t v le right.
        same_before m sound faulty meanwhile node after too (starts_later node last starts) sent
        begins rounds (λ w right_too. begun_later w right_too (w == node) refl) past v right t le;
  }

pub any_resumption_connects : AnyResumptionConnects
any_resumption_connects m sound faulty meanwhile node after too correct starts sent begins rounds
    begun =
    resumption_connects m sound faulty meanwhile node after too correct starts sent begins rounds
    begun
