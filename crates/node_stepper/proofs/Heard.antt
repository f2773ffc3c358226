-- Nodes that hear most of one another over packets make lossy steps.
use Rattle.std.proofs.Common.{◌≡◌, ℕ, ◌+◌, ◌<◌, Bool, true, false, cond, List, [], length}
use Rattle.std.proofs.Common.{get_or, refl, sym, ap, ◌∙◌, subst, arith}
use Rattle.std.specs.Prelude.{◌==◌}
use Rattle.std.proofs.lemmas.Bool.{eqb-true, eqb-false}
use Rattle.std.proofs.lemmas.List.FromFn.{length-map-range_with_len}
use Rattle.std.proofs.lemmas.List.FromFn.{get_or-map-range_with_len}
use Rattle.sync_types.specs.States.{State, zero_state}
use Rattle.construction.specs.Steps.{state_of}
use Rattle.construction.specs.Runs.{is_in, configuration}
use Rattle.state_codec.specs.Reading.{read}
use Rattle.machines.specs.Machines.{Machine, IsState}
use Rattle.machines.specs.Laws.{IsSound}
use Rattle.node_stepper.specs.Nodes.{heard_of}
use Rattle.node_stepper.specs.NodeRuns.{Nodes, IsCorrect, state_in, states_in}
use Rattle.node_stepper.specs.Losses.{LossyStep, LossyRun, AreHeard}
use Rattle.node_stepper.specs.RunLaws.{HeardNodesStayLocked}
use Rattle.node_stepper.proofs.States.{read_is_state}
use Rattle.node_stepper.proofs.Windows.{Reach, hears, config, run, state_is, step_is, in_is_state}
use Rattle.node_stepper.proofs.Windows.{configuration_is, long, configurations, follows}
use Rattle.node_stepper.proofs.Follows.{locked_in, stay_locked}
use Rattle.node_stepper.proofs.Losses.{losses_keep_locked, not_so}

module _ (m : Machine) (sound : IsSound m) (faulty : List ℕ) (nodes : Nodes)
    (begins : ℕ → ℕ) (rounds : ℕ) (are : AreHeard m faulty nodes begins rounds) where
  abbrev n : ℕ
  n = m.nodes

  abbrev pub reach : Reach m faulty nodes begins rounds
  reach = record { starts = are.starts; enough = are.enough }

  abbrev at : (i : ℕ) → List State
  at i = config m sound faulty nodes begins rounds reach i

  module _ (i : ℕ) (lt : i < rounds) (v : ℕ) (correct : IsCorrect m faulty v) where
    abbrev packet : List (List ℕ)
    packet = get_or (nodes.packets v) (begins v + i) []

    abbrev own : State
    own = state_in m nodes begins i v

    abbrev heard : List State
    heard = hears m sound faulty nodes begins rounds reach i v

    heard_is : (u : ℕ) → u < n → state_of heard u ≡ heard_of m v own packet u
    heard_is u ult =
        get_or-map-range_with_len (heard_of m v own packet) 0 n u u (zero_state 0) ult (omega arith)

    state_by : (u : ℕ) → u < n → (b : Bool) → (u == v) ≡ b
        → IsState m u (cond b own (read (m.fields u) (get_or packet u [])))
    state_by u ult true same =
        subst (λ x. IsState m x own) (sym (eqb-true u v same))
        (in_is_state m sound faulty nodes begins rounds reach i v correct)
    state_by u ult false apart = read_is_state m sound u ult (get_or packet u [])

    -- the state in which a node is that is not missed
    truth_by : (u : ℕ) → u < n → is_in (are.missed i v) u ≡ false → (b : Bool) → (u == v) ≡ b
        → cond b own (read (m.fields u) (get_or packet u [])) ≡ state_in m nodes begins i u
    truth_by u ult not_missed true same =
        ap (λ x. state_in m nodes begins i x) (sym (eqb-true u v same))
    truth_by u ult not_missed false apart =
        are.cells i v u lt correct ult not_missed (eqb-false u v apart)

    truth : (u : ℕ) → u < n → is_in (are.missed i v) u ≡ false
        → state_of heard u ≡ state_of (at i) u
    truth u ult not_missed =
        heard_is u ult
        ∙ truth_by u ult not_missed (u == v) refl
        ∙ sym (state_is m sound faulty nodes begins rounds reach i u (
          ult,
          not_so (is_in faulty u) (is_in (are.missed i v) u)
              ((are.are i v lt correct).faulty_too u) not_missed,
        ))

    lossy_step : LossyStep m faulty v (at i) (state_of (at (i + 1)) v)
    lossy_step = record {
      missed = are.missed i v;
      are = are.are i v lt correct;
      heard = heard;
      hears = record {
        size = length-map-range_with_len (heard_of m v own packet) 0 n;
        states = λ u ult.
            subst (IsState m u) (sym (heard_is u ult)) (state_by u ult (u == v) refl);
        truth = truth;
      };
      step = step_is m sound faulty nodes begins rounds reach i v lt correct;
    }

  abbrev pub here : List (List State)
  here = run m sound faulty nodes begins rounds reach

  here_long : length here ≡ rounds + 1
  here_long = long m sound faulty nodes begins rounds reach

  next : (i v : ℕ) → i + 1 < length here → IsCorrect m faulty v
      → LossyStep m faulty v (configuration here i) (state_of (configuration here (i + 1)) v)
  next i v lt correct =
      let before : i < rounds = omega (arith, here_long) in
      subst (λ old. LossyStep m faulty v old (state_of (configuration here (i + 1)) v))
      (sym (configuration_is m sound faulty nodes begins rounds reach i (omega arith)))
      (subst (λ new. LossyStep m faulty v (at i) (state_of new v))
      (sym (configuration_is m sound faulty nodes begins rounds reach (i + 1) (omega arith)))
      (lossy_step i before v correct))

  pub lossy_run : LossyRun m faulty here
  lossy_run = record {
    configurations = configurations m sound faulty nodes begins rounds reach;
    rounds = next;
  }

pub heard_nodes_stay_locked : HeardNodesStayLocked
heard_nodes_stay_locked m sound faulty borne nodes begins rounds are from le locked =
    let reached = reach m sound faulty nodes begins rounds are in
    let at = states_in m nodes begins in
    let r = here m sound faulty nodes begins rounds are in
    let f = follows m sound faulty nodes begins rounds reached in
    stay_locked m faulty at rounds r f from
    (losses_keep_locked m sound faulty borne r
    (lossy_run m sound faulty nodes begins rounds are) from
    (omega (arith, long m sound faulty nodes begins rounds reached, le))
    (locked_in m faulty at rounds r f from le locked))
