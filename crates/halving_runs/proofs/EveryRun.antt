-- Every run of a halving plan with a layer is one of a settling counter.
use Rattle.std.proofs.Common.{◌≡◌, ℕ, Some, sym, ◌∙◌, subst}
use Rattle.machines.specs.Machines.{Machine, IsState}
use Rattle.machines.specs.Laws.{IsSound}
use Rattle.layer_laws.specs.Counters.{IsSettling}
use Rattle.layer_runner.proofs.MachinesSettle.{machines_settle}
use Rattle.consensus_layer.proofs.Decisions.{every_run_decides_over}
use Rattle.consensus_layer.proofs.ChangingInputs.{changing_inputs_decide_over}
use Rattle.firing.proofs.FiredTogether.{fires_together_over}
use Rattle.replicated_log.proofs.SlotEntries.{every_slot_puts_one_over}
use Rattle.replicated_log.proofs.SameLogs.{logs_are_one_over}
use Rattle.replicated_log.proofs.ChangingCommands.{changing_commands_put_one_over}
use Rattle.replicated_log.proofs.ChangingCommands.{changing_logs_are_one_over}
use Rattle.slot_table.specs.Tables.{Holds, holder_of}
use Rattle.slot_table.proofs.Holders.{holder_holds}
use Rattle.halving_plan.specs.Plans.{HalvingNumbers, IsAccepted}
use Rattle.halving_plan.specs.Laws.{machine_in}
use Rattle.halving_plan.proofs.Sound.{accepted_are_sound}
use Rattle.halving_runs.specs.LayerPromises.{counter_of}
use Rattle.halving_runs.specs.EveryRun.{AtMostOneHolds, EveryRunKeeps}

some_one : (x y : ℕ) → Some x ≡ Some y → x ≡ y
some_one x y e = cc

module _ (plan : HalvingNumbers) (accepted : IsAccepted plan) where
  abbrev machine : Machine
  machine = machine_in plan

  sound : IsSound machine
  sound = accepted_are_sound plan accepted

  settling : IsSettling (counter_of plan) (IsState machine)
  settling = machines_settle machine sound

  at_most_one_holds : AtMostOneHolds plan
  at_most_one_holds lines apart faulty run borne is t lo hi u v here there =
      let counts = sound.settles faulty run borne is in
      let output : ℕ = counts.output t in
      let one : holder_of lines output
      ≡ Some u = holder_holds lines apart u output
      (subst (Holds lines u) (counts.shows t lo hi u here.node here.correct) here.holds) in
      let other : holder_of lines output
      ≡ Some v = holder_holds lines apart v output
      (subst (Holds lines v) (counts.shows t lo hi v there.node there.correct) there.holds) in
      some_one u v (sym one ∙ other)

pub every_run_keeps : EveryRunKeeps
every_run_keeps plan accepted =
    let counter = counter_of plan in
    let is_state = IsState (machine_in plan) in
    let settles = settling plan accepted in
    record {
      settling = settles;
      holds = at_most_one_holds plan accepted;
      decides = every_run_decides_over counter is_state settles;
      changing = changing_inputs_decide_over counter is_state settles;
      fires = fires_together_over counter is_state settles;
      puts = every_slot_puts_one_over counter is_state settles;
      logs = logs_are_one_over counter is_state settles;
      changing_puts = changing_commands_put_one_over counter is_state settles;
      changing_logs = changing_logs_are_one_over counter is_state settles;
    }
