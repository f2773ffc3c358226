-- Calls of `node` keep the promise of calls of any construction, in the words of their plan.
use Rattle.std.proofs.Common.{ℕ, ◌+◌, List}
use Rattle.sync_types.specs.States.{State}
use Rattle.construction.specs.Plans.{Plan}
use Rattle.construction.specs.Runs.{IsToleratedBy, IsLocked}
use Rattle.machines.specs.Machines as machines
use Rattle.plan_numbers.specs.Premises.{IsAccepted}
use Rattle.plan_laws.specs.VersionLaws.{in_version}
use Rattle.plan_laws.proofs.Versions.{versions_agree}
use Rattle.plan_machine.specs.PlanMachines.{machine_of_plan}
use Rattle.plan_machine.proofs.PlanMachines.{are_alike}
use Rattle.node_stepper.specs.RunLaws as any_nodes
use Rattle.plan_machine.specs.NodeRuns.{SomeIsCorrect}
use Rattle.plan_machine.specs.Laws.{RunThrough, CountThrough, StayLockedThrough}
use Rattle.node_words.specs.CallWindows as any
use Rattle.node_words.proofs.Connected as any_connected
use Rattle.node_words.proofs.Heard as any_heard
use Rattle.node_words.proofs.Restarts as any_restarts
use Rattle.outcomes.specs.PlanWords.{plan_words}
use Rattle.promises.specs.NodeCalls.{Call}
use Rattle.promises.specs.CallWindows.{states_written, NameThePlan, NodesKeepPromise}
use Rattle.promises.specs.CallWindows.{ConnectedCallsCount, HeardCallsStayLocked}
use Rattle.promises.specs.Restarts.{calls_after, begins_after, RestartedNodesCount}
use Rattle.promises.proofs.PlanCalls.{headers_of_machines, are_accepted}

module _ (plan : Plan) where
  borne_here : (faulty : List ℕ) → IsToleratedBy plan faulty
      → machines.IsToleratedBy (machine_of_plan plan) faulty
  borne_here faulty is = record { rising = is.rising; ids = is.ids; few = is.few }

  count : any.ConnectedCallsCount plan_words (machine_of_plan plan)
  count = any_connected.connected_count plan_words headers_of_machines (machine_of_plan plan)

  -- if some node is correct
  newer_accepted : (faulty : List ℕ) → SomeIsCorrect plan faulty → (calls : ℕ → Call)
      → NameThePlan plan faulty calls → IsAccepted (in_version 2 plan)
  newer_accepted faulty some calls named =
      (are_accepted plan some.0 (calls some.0) (named some.0 some.1)).1

-- what is said of configurations, in the words of the plan
module _ (plan : Plan) (accepted : IsAccepted (in_version 2 plan)) (faulty : List ℕ) where
  module _ (at : ℕ → List State) (rounds : ℕ) where
    run_of : any_nodes.RunThrough (machine_of_plan plan) faulty at rounds
        → RunThrough plan faulty at rounds
    run_of r = record {
      run = r.run;
      is =
          ((versions_agree plan 2).runs faulty r.run).1
          (((are_alike (in_version 2 plan) accepted).runs faulty r.run).1 r.is);
      long = r.long;
      states = r.states;
    }

    count_of : (from : ℕ) → any_nodes.CountThrough (machine_of_plan plan) faulty at from rounds
        → CountThrough plan faulty at from rounds
    count_of from c = record { output = c.output; shows = c.shows; grows = c.grows }

    locked_of : (i : ℕ) → machines.IsLocked (machine_of_plan plan) faulty (at i)
        → IsLocked plan faulty (at i)
    locked_of i = ((are_alike (in_version 2 plan) accepted).locks faulty (at i)).1

    locked_there : (i : ℕ) → IsLocked plan faulty (at i)
        → machines.IsLocked (machine_of_plan plan) faulty (at i)
    locked_there i = ((are_alike (in_version 2 plan) accepted).locks faulty (at i)).0

    stay_of : (from : ℕ) → any_nodes.StayLockedThrough (machine_of_plan plan) faulty at from rounds
        → StayLockedThrough plan faulty at from rounds
    stay_of from s = record {
      locked = λ i after low. locked_of i (s.locked i after low);
      counts = count_of from s.counts;
    }

  keep : (calls : ℕ → Call) (begins : ℕ → ℕ) (rounds : ℕ)
      → any.NodesKeepPromise plan_words (machine_of_plan plan) faulty calls begins rounds
      → NodesKeepPromise plan faulty calls begins rounds
  keep calls begins rounds k =
      let at = states_written plan calls begins in
      record {
        written = k.written;
        run = run_of at rounds k.run;
        settles = count_of at rounds (machine_of_plan plan).bound k.settles;
        locks = λ reached. locked_of at rounds (machine_of_plan plan).bound (k.locks reached);
        stays = λ from le locked.
            stay_of at rounds from (k.stays from le (locked_there at rounds from locked));
      }

pub connected_count : ConnectedCallsCount
connected_count plan faulty borne some calls begins rounds is =
    keep plan (newer_accepted plan faulty some calls is.headers) faulty calls begins rounds
    (count plan faulty (borne_here plan faulty borne) some calls begins rounds is.connect)

pub heard_stay_locked : HeardCallsStayLocked
heard_stay_locked plan faulty borne some calls begins rounds is from le locked =
    let sound = newer_accepted plan faulty some calls is.headers in
    let at = states_written plan calls begins in
    stay_of plan sound faulty at rounds from
    (any_heard.heard_stay_locked plan_words headers_of_machines (machine_of_plan plan) faulty
    (borne_here plan faulty borne) some calls begins rounds is.heard from le
    (locked_there plan sound faulty at rounds from locked))

pub restarted_count : RestartedNodesCount
restarted_count plan faulty meanwhile borne borne_too restart too some calls begins rounds whole
    rest =
    let sound = newer_accepted plan meanwhile some calls whole.headers in
    let at = states_written plan calls begins in
    let later = states_written plan (calls_after restart calls) (begins_after restart begins) in
    let k = any_restarts.restarted_count plan_words (machine_of_plan plan) (count plan) faulty
    meanwhile (borne_here plan faulty borne) (borne_here plan meanwhile borne_too) restart too some
    calls begins rounds whole.connect rest.connect in
    record {
      others = keep plan sound meanwhile calls begins (restart.after + rounds) k.others;
      rest =
          keep plan sound faulty (calls_after restart calls) (begins_after restart begins) rounds
          k.rest;
      same = k.same;
      handed = λ same_cell locked.
          stay_of plan sound faulty later rounds 0
          (k.handed same_cell (locked_there plan sound faulty at rounds restart.after locked));
    }
