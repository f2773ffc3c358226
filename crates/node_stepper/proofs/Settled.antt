-- What is a run comes to count, as every run does.
use Rattle.std.proofs.Common.{ℕ, ◌≤◌, List, arith}
use Rattle.sync_types.specs.States.{State}
use Rattle.machines.specs.Machines.{Machine, IsToleratedBy, IsLocked}
use Rattle.machines.specs.Laws.{IsSound}
use Rattle.node_stepper.specs.NodeRuns.{states_in}
use Rattle.node_stepper.specs.RunLaws.{RunThrough, CountThrough, StayLockedThrough, NodesSettle}
use Rattle.node_stepper.specs.RunLaws.{NodesLock, NodesStayLocked}
use Rattle.node_stepper.proofs.Follows.{Follows, locked_in, locked_out, count, stay_locked}
use Rattle.node_stepper.proofs.Runs.{nodes_run}

module _ (m : Machine) (sound : IsSound m) (faulty : List ℕ) (at : ℕ → List State) (rounds : ℕ)
    (r : RunThrough m faulty at rounds) (borne : IsToleratedBy m faulty) where
  abbrev follows : Follows m faulty at rounds r.run
  follows = record { long = r.long; states = r.states }

  pub settle_through : CountThrough m faulty at m.bound rounds
  settle_through =
      count m faulty at rounds r.run follows m.bound (sound.settles faulty r.run borne r.is)

  pub lock_through : m.bound ≤ rounds → IsLocked m faulty (at m.bound)
  lock_through reached =
      let long = r.long in
      locked_out m faulty at rounds r.run follows m.bound reached
      (sound.locks faulty r.run borne r.is (omega (arith, long, reached)))

  pub stay_through : (from : ℕ) → from ≤ rounds → IsLocked m faulty (at from)
      → StayLockedThrough m faulty at from rounds
  stay_through from le locked =
      let long = r.long in
      stay_locked m faulty at rounds r.run follows from
      (sound.stays faulty r.run borne r.is from (omega (arith, long, le))
      (locked_in m faulty at rounds r.run follows from le locked))

pub nodes_settle : NodesSettle
nodes_settle m sound faulty borne nodes begins rounds are =
    settle_through m sound faulty (states_in m nodes begins) rounds
    (nodes_run m sound faulty nodes begins rounds are) borne

pub nodes_lock : NodesLock
nodes_lock m sound faulty borne nodes begins rounds are =
    lock_through m sound faulty (states_in m nodes begins) rounds
    (nodes_run m sound faulty nodes begins rounds are) borne

pub nodes_stay_locked : NodesStayLocked
nodes_stay_locked m sound faulty borne nodes begins rounds are =
    stay_through m sound faulty (states_in m nodes begins) rounds
    (nodes_run m sound faulty nodes begins rounds are) borne
