-- The construction's words of runs say the same as those of machines: they differ in what a state
-- is, and a state of the construction is one in range.
use Rattle.std.proofs.Common.{ℕ, ◌<◌, List, [], ◌∷◌}
use Rattle.sync_types.specs.States.{State}
use Rattle.construction.specs.Plans.{Level, Plan, nodes_of}
use Rattle.construction.specs.Runs as plan_runs
use Rattle.construction.specs.Runs.{machine_of}
use Rattle.plan_numbers.specs.Premises.{IsAccepted}
use Rattle.state_codec.proofs.PlanStates.{state_of_node, in_range_of_node}
use Rattle.machines.specs.Machines as machines
use Rattle.machines.specs.Machines.{LockedBy}
use Rattle.plan_machine.specs.PlanMachines.{machine_of_plan, lock_of, AreAlike, PlansAreMachines}
use Rattle.plan_machine.proofs.WiderStates.{wider_configuration, wider_round, wider_run}

locked_here : (levels : List Level) (faulty : List ℕ) (config : List State)
    → plan_runs.IsLockedIn levels faulty config
    → LockedBy (lock_of levels) (nodes_of levels) faulty config
locked_here [] faulty config is = is
locked_here (level ∷ below) faulty config is = is

locked_there : (levels : List Level) (faulty : List ℕ) (config : List State)
    → LockedBy (lock_of levels) (nodes_of levels) faulty config
    → plan_runs.IsLockedIn levels faulty config
locked_there [] faulty config is = is
locked_there (level ∷ below) faulty config is = is

module _ (plan : Plan) (accepted : IsAccepted plan) where
  abbrev ours : (v : ℕ) → State → Type 0
  ours = plan_runs.IsState plan

  abbrev theirs : (v : ℕ) → State → Type 0
  theirs = machines.IsState (machine_of_plan plan)

  here : (v : ℕ) (state : State) → v < (machine_of plan).nodes → ours v state → theirs v state
  here v state lt is = in_range_of_node plan accepted v lt state is

  there : (v : ℕ) (state : State) → v < (machine_of plan).nodes → theirs v state → ours v state
  there v state lt is = state_of_node plan accepted v lt state is

  pub are_alike : AreAlike plan
  are_alike =
      let m = machine_of plan in
      record {
        states = λ v state lt. (here v state lt, there v state lt);
        borne = λ faulty. (λ is. is, λ is. is);
        configurations = λ config. (
          wider_configuration m ours theirs here config,
          wider_configuration m theirs ours there config,
        );
        rounds = λ faulty old lies new. (
          wider_round m ours theirs here faulty old lies new,
          wider_round m theirs ours there faulty old lies new,
        );
        runs = λ faulty run. (
          wider_run m ours theirs here faulty run,
          wider_run m theirs ours there faulty run,
        );
        counts = λ faulty run from. (λ is. is, λ is. is);
        locks = λ faulty config. (
          locked_here plan.levels faulty config,
          locked_there plan.levels faulty config,
        );
        settles = (
          λ settles faulty run borne is.
              settles faulty run borne (wider_run m theirs ours there faulty run is),
          λ settles faulty run borne is.
              settles faulty run borne (wider_run m ours theirs here faulty run is),
        );
      }

pub plans_are_machines : PlansAreMachines
plans_are_machines plan accepted = are_alike plan accepted
