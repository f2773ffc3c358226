-- Connected nodes are a run: a packet is a round, in which a faulty node tells what its cell is
-- read as.
use Rattle.std.proofs.Common.{◌≡◌, ℕ, ◌+◌, ◌<◌, Bool, true, false, cond, not, ◌||◌, List, []}
use Rattle.std.proofs.Common.{length, map, get_or, refl, sym, ap, ◌∙◌, subst, arith}
use Rattle.std.specs.Prelude.{◌==◌}
use Rattle.std.specs.List.{range_with_len}
use Rattle.std.proofs.lemmas.Bool.{eqb-true, eqb-false}
use Rattle.std.proofs.lemmas.List.FromFn.{fill_by_all, length-map-range_with_len}
use Rattle.std.proofs.lemmas.List.FromFn.{get_or-map-range_with_len}
use Rattle.sync_types.specs.States.{State, zero_state}
use Rattle.construction.specs.Steps.{state_of}
use Rattle.construction.specs.Runs.{is_in, configuration, heard_by}
use Rattle.construction.specs.Runs as runs
use Rattle.state_codec.specs.Reading.{read}
use Rattle.machines.specs.Machines.{Machine, IsState, IsTold, IsTable, Round, IsNext}
use Rattle.machines.specs.Laws.{IsSound}
use Rattle.node_stepper.specs.Nodes.{heard_of, heard_in}
use Rattle.node_stepper.specs.NodeRuns.{Nodes, cell_given, IsCorrect, state_in, states_in}
use Rattle.node_stepper.specs.NodeRuns.{AreConnected}
use Rattle.node_stepper.specs.RunLaws.{RunThrough, NodesRun}
use Rattle.node_stepper.proofs.States.{read_is_state}
use Rattle.counter_core.proofs.StateLists.{each_below}
use Rattle.node_stepper.proofs.Windows.{Reach, placed, config, run, state_is, step_is}
use Rattle.node_stepper.proofs.Windows.{configuration_is, long, configurations, follows}

-- what is heard of a node: of itself, of a correct one, of a faulty one
by_cases : (same faulty : Bool) (truth told own cell : State)
    → (same ≡ true → truth ≡ own)
    → (same ≡ false → faulty ≡ false → truth ≡ cell)
    → (same ≡ false → faulty ≡ true → told ≡ cell)
    → cond (same || not faulty) truth told ≡ cond same own cell
by_cases true faulty truth told own cell itself correct lies = itself refl
by_cases false false truth told own cell itself correct lies = correct refl refl
by_cases false true truth told own cell itself correct lies = lies refl refl

module _ (m : Machine) (sound : IsSound m) (faulty : List ℕ) (nodes : Nodes)
    (begins : ℕ → ℕ) (rounds : ℕ) (are : AreConnected m faulty nodes begins rounds) where
  abbrev n : ℕ
  n = m.nodes

  abbrev reach : Reach m faulty nodes begins rounds
  reach = record { starts = are.starts; enough = are.enough }

  abbrev at : (i : ℕ) → List State
  at i = config m sound faulty nodes begins rounds reach i

  -- what u tells v in round i
  abbrev told : (i u v : ℕ) → State
  told i u v = read (m.fields u) (cell_given nodes (begins v + i) v u)

  abbrev row : (i u : ℕ) → List State
  row i u = map (told i u) (range_with_len 0 n)

  abbrev lies : (i : ℕ) → List (List State)
  lies i = map (row i) (range_with_len 0 n)

  table : (i : ℕ) → IsTable m (lies i)
  table i = record {
    size = length-map-range_with_len (row i) 0 n;
    rows =
        placed (IsTold m) (row i) n []
        (λ u lt. record {
          size = length-map-range_with_len (told i u) 0 n;
          states = each_below (IsState m u) (told i u) n
              (λ v vlt. read_is_state m sound u lt (cell_given nodes (begins v + i) v u));
        });
  }

  module _ (i : ℕ) (lt : i < rounds) (v : ℕ) (correct : IsCorrect m faulty v) where
    abbrev packet : List (List ℕ)
    packet = get_or (nodes.packets v) (begins v + i) []

    abbrev own : State
    own = state_in m nodes begins i v

    abbrev heard_here : (u : ℕ) → State
    heard_here u = runs.heard_of faulty (at i) (lies i) v u

    heard_same : (u : ℕ) → u < n → heard_here u ≡ heard_of m v own packet u
    heard_same u ult =
        by_cases (u == v) (is_in faulty u) (state_of (at i) u)
        (state_of (get_or (lies i) u []) v) own (read (m.fields u) (get_or packet u []))
        (λ same. ap (state_of (at i)) (eqb-true u v same)
        ∙ state_is m sound faulty nodes begins rounds reach i v correct)
        (λ other is.
        let u_correct : IsCorrect m faulty u = (ult, is) in
        state_is m sound faulty nodes begins rounds reach i u u_correct
        ∙ sym (are.cells i v u lt correct u_correct (eqb-false u v other)))
        (λ other is.
        ap (λ (told_by : List State). state_of told_by v)
        (get_or-map-range_with_len (row i) 0 n u u [] ult (omega arith))
        ∙ get_or-map-range_with_len (told i u) 0 n v v (zero_state 0) correct.0 (omega arith))

    all_heard : heard_by n faulty (at i) (lies i) v ≡ heard_in m v own packet
    all_heard =
        fill_by_all (heard_of m v own packet) (heard_by n faulty (at i) (lies i) v) n
        (zero_state 0) (length-map-range_with_len heard_here 0 n)
        (λ u ult. get_or-map-range_with_len heard_here 0 n u u (zero_state 0) ult (omega arith)
        ∙ heard_same u ult)

  round : (i : ℕ) → i < rounds → Round m faulty (at i) (lies i) (at (i + 1))
  round i lt = record {
    table = table i;
    steps = λ v vlt is.
        step_is m sound faulty nodes begins rounds reach i v lt (vlt, is)
        ∙ ap (m.step v) (sym (all_heard i lt v (vlt, is)));
  }

  abbrev here : List (List State)
  here = run m sound faulty nodes begins rounds reach

  here_long : length here ≡ rounds + 1
  here_long = long m sound faulty nodes begins rounds reach

  next : (i : ℕ) → i + 1 < length here
      → IsNext m faulty (configuration here i) (configuration here (i + 1))
  next i lt =
      let before : i < rounds = omega (arith, here_long) in
      subst (λ old. IsNext m faulty old (configuration here (i + 1)))
      (sym (configuration_is m sound faulty nodes begins rounds reach i (omega arith)))
      (subst (λ new. IsNext m faulty (at i) new)
      (sym (configuration_is m sound faulty nodes begins rounds reach (i + 1) (omega arith)))
      (record { lies = lies i; round = round i before }))

  pub are_run : RunThrough m faulty (states_in m nodes begins) rounds
  are_run = record {
    run = here;
    is = record {
      some = omega (arith, here_long);
      configurations = configurations m sound faulty nodes begins rounds reach;
      rounds = next;
    };
    long = here_long;
    states = (follows m sound faulty nodes begins rounds reach).states;
  }

pub nodes_run : NodesRun
nodes_run m sound faulty nodes begins rounds are =
    are_run m sound faulty nodes begins rounds are
