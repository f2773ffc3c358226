-- If each state of one kind is one of another, so is each configuration, each round and each run.
use Rattle.std.proofs.Common.{ℕ, ◌<◌, List}
use Rattle.std.proofs.lemmas.List.Elements.{All-weaker}
use Rattle.sync_types.specs.States.{State}
use Rattle.construction.specs.Machines.{Machine, IsConfiguration, IsTold, Round, Run}

module _ (machine : Machine) (P Q : (v : ℕ) → State → Type 0)
    (wider : (v : ℕ) (state : State) → v < machine.nodes → P v state → Q v state) where
  pub wider_configuration : (config : List State) → IsConfiguration machine P config
      → IsConfiguration machine Q config
  wider_configuration config is =
      record { size = is.size; states = λ v lt. wider v _ lt (is.states v lt) }

  wider_told : (u : ℕ) → u < machine.nodes → (told : List State) → IsTold machine P u told
      → IsTold machine Q u told
  wider_told u lt told is = record {
    size = is.size;
    states = All-weaker (P u) (Q u) (λ state. wider u state lt) told is.states;
  }

  pub wider_round : (faulty : List ℕ) (old : List State) (lies : List (List State))
      (new : List State) → Round machine P faulty old lies new
      → Round machine Q faulty old lies new
  wider_round faulty old lies new round = record {
    table = record {
      size = round.table.size;
      rows = λ u lt. wider_told u lt _ (round.table.rows u lt);
    };
    steps = round.steps;
  }

  pub wider_run : (faulty : List ℕ) (run : List (List State)) → Run machine P faulty run
      → Run machine Q faulty run
  wider_run faulty run is = record {
    some = is.some;
    configurations = All-weaker (IsConfiguration machine P) (IsConfiguration machine Q)
        wider_configuration run is.configurations;
    rounds = λ t lt. let next = is.rounds t lt in record {
      lies = next.lies;
      round = wider_round faulty _ next.lies _ next.round;
    };
  }
