-- The laws of nodes of any machine, of those of a plan.
use Rattle.std.proofs.Common.{◌≡◌, ℕ, ◌≤◌, List}
use Rattle.sync_types.specs.States.{State}
use Rattle.construction.specs.Plans.{Plan, plan_bound}
use Rattle.construction.specs.Steps.{state_of}
use Rattle.construction.specs.Runs.{IsToleratedBy, IsLocked}
use Rattle.plan_numbers.specs.Premises.{IsAccepted}
use Rattle.machines.specs.Laws.{IsSound}
use Rattle.machines.specs.Machines.{Machine}
use Rattle.plan_machine.specs.PlanMachines.{machine_of_plan}
use Rattle.plan_machine.proofs.PlanMachines.{are_alike}
use Rattle.plan_machine.proofs.Sound.{accepted_are_sound}
use Rattle.node_stepper.specs.RunLaws as any
use Rattle.node_stepper.proofs.Connected as connected
use Rattle.node_stepper.proofs.Correct as correct
use Rattle.node_stepper.proofs.Follows as follows
use Rattle.node_stepper.proofs.Heard as heard
use Rattle.node_stepper.proofs.Runs as runs
use Rattle.node_stepper.proofs.Settled as settled
use Rattle.plan_machine.specs.NodeRuns.{IsCorrect, states_in}
use Rattle.plan_machine.specs.Laws.{AnyLiesConnect, BorneLeavesSome, NodesRun, NodesSettle}
use Rattle.plan_machine.specs.Laws.{NodesLock, NodesStayLocked, HeardNodesStayLocked}
use Rattle.plan_machine.specs.Laws.{CountThrough, RunThrough, StayLockedThrough}

pub any_lies_connect : AnyLiesConnect
any_lies_connect plan accepted faulty starts sent begins rounds begun =
    let alike = are_alike plan accepted in
    let are = connected.any_lies_connect (machine_of_plan plan) (accepted_are_sound plan accepted)
    faulty starts sent begins rounds
    (λ v correct. (alike.states v (starts v) correct.0).0 (begun v correct)) in
    record {
      nodes = are.nodes;
      begin = are.begin;
      are = are.are;
      long = are.long;
      full = are.full;
      given = are.given;
      wrote = are.wrote;
    }

pub borne_leaves_some : BorneLeavesSome
borne_leaves_some plan accepted faulty borne =
    correct.some_left (machine_of_plan plan) (accepted_are_sound plan accepted) faulty borne

pub nodes_run : NodesRun
nodes_run plan accepted faulty nodes begins rounds are =
    let r = runs.nodes_run (machine_of_plan plan) (accepted_are_sound plan accepted) faulty nodes
    begins rounds are in
    record {
      run = r.run;
      is = ((are_alike plan accepted).runs faulty r.run).1 r.is;
      long = r.long;
      states = r.states;
    }

-- ---- what is said of configurations, in the words of machines

module _ (plan : Plan) (accepted : IsAccepted plan) (faulty : List ℕ) (at : ℕ → List State)
    (rounds : ℕ) where
  abbrev m : Machine
  m = machine_of_plan plan

  sound : IsSound m
  sound = accepted_are_sound plan accepted

  count : (from : ℕ) → any.CountThrough m faulty at from rounds
      → CountThrough plan faulty at from rounds
  count from c = record { output = c.output; shows = c.shows; grows = c.grows }

  stay_locked : (from : ℕ) → any.StayLockedThrough m faulty at from rounds
      → StayLockedThrough plan faulty at from rounds
  stay_locked from s = record {
    locked = λ t after high. ((are_alike plan accepted).locks faulty _).1 (s.locked t after high);
    counts = count from s.counts;
  }

  -- what is a run comes to count
  module _ (r : RunThrough plan faulty at rounds) (borne : IsToleratedBy plan faulty) where
    here : any.RunThrough m faulty at rounds
    here = record {
      run = r.run;
      is = ((are_alike plan accepted).runs faulty r.run).0 r.is;
      long = r.long;
      states = r.states;
    }

    pub settle_through : CountThrough plan faulty at (plan_bound plan) rounds
    settle_through =
        count (plan_bound plan) (settled.settle_through m sound faulty at rounds here borne)

    pub lock_through : plan_bound plan ≤ rounds → IsLocked plan faulty (at (plan_bound plan))
    lock_through reached =
        ((are_alike plan accepted).locks faulty _).1
        (settled.lock_through m sound faulty at rounds here borne reached)

    pub stay_through : (from : ℕ) → from ≤ rounds → IsLocked plan faulty (at from)
        → StayLockedThrough plan faulty at from rounds
    stay_through from le locked =
        stay_locked from
        (settled.stay_through m sound faulty at rounds here borne from le
        (((are_alike plan accepted).locks faulty _).0 locked))

-- what holds of configurations holds of others with the same states of the correct nodes
module _ (plan : Plan) (accepted : IsAccepted plan) (faulty : List ℕ) (at other : ℕ → List State)
    (rounds : ℕ)
    (same : (i v : ℕ) → i ≤ rounds → IsCorrect plan faulty v
    → state_of (at i) v ≡ state_of (other i) v) where
  pub locked_elsewhere : (i : ℕ) → i ≤ rounds → IsLocked plan faulty (at i)
      → IsLocked plan faulty (other i)
  locked_elsewhere i le locked =
      let alike = are_alike plan accepted in
      (alike.locks faulty (other i)).1
      (follows.locked_elsewhere (machine_of_plan plan) faulty at other rounds same i le
      ((alike.locks faulty (at i)).0 locked))

  pub stay_elsewhere : (from : ℕ) → StayLockedThrough plan faulty at from rounds
      → StayLockedThrough plan faulty other from rounds
  stay_elsewhere from s =
      stay_locked plan accepted faulty other rounds from
      (follows.stay_elsewhere (machine_of_plan plan) faulty at other rounds same from
      (record {
        locked = λ i low high.
            ((are_alike plan accepted).locks faulty (at i)).0 (s.locked i low high);
        counts = record {
          output = s.counts.output;
          shows = s.counts.shows;
          grows = s.counts.grows;
        };
      }))

pub nodes_settle : NodesSettle
nodes_settle plan accepted faulty borne nodes begins rounds are =
    settle_through plan accepted faulty (states_in plan nodes begins) rounds
    (nodes_run plan accepted faulty nodes begins rounds are) borne

pub nodes_lock : NodesLock
nodes_lock plan accepted faulty borne nodes begins rounds are =
    lock_through plan accepted faulty (states_in plan nodes begins) rounds
    (nodes_run plan accepted faulty nodes begins rounds are) borne

pub nodes_stay_locked : NodesStayLocked
nodes_stay_locked plan accepted faulty borne nodes begins rounds are =
    stay_through plan accepted faulty (states_in plan nodes begins) rounds
    (nodes_run plan accepted faulty nodes begins rounds are) borne

pub heard_nodes_stay_locked : HeardNodesStayLocked
heard_nodes_stay_locked plan accepted faulty borne nodes begins rounds are from le locked =
    let alike = are_alike plan accepted in
    stay_locked plan accepted faulty (states_in plan nodes begins) rounds from
    (heard.heard_nodes_stay_locked (machine_of_plan plan) (accepted_are_sound plan accepted) faulty
    borne nodes begins rounds are from le ((alike.locks faulty _).0 locked))
