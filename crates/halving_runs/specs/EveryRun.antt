-- What holds of every run of a halving plan, with a layer or without one, whatever its start, its
-- lies and what its nodes keep: not of scripts alone.
use Rattle.std.specs.Prelude.{◌≡◌, ℕ, ◌+◌, ◌%◌, ◌<◌, ◌≤◌, List, length, false}
use Rattle.sync_types.specs.FaultSets.{is_in}
use Rattle.sync_types.specs.States.{State}
use Rattle.construction.specs.Steps.{state_of}
use Rattle.construction.specs.Runs.{configuration}
use Rattle.machines.specs.Machines.{Machine, IsState, IsToleratedBy, Run}
use Rattle.layer_laws.specs.Counters.{IsSettling}
use Rattle.layer_laws.specs.Numbers.{numbers_in}
use Rattle.layer_laws.specs.Scenes.{Scene}
use Rattle.layer_laws.specs.CounterLayers.{LayerRun, scene}
use Rattle.layer_laws.specs.CounterSlots.{slot_length, AllAre}
use Rattle.consensus_layer.specs.Agreements.{AgreeRunOver, DecidesOver}
use Rattle.consensus_layer.specs.ChangingInputs as any_inputs
use Rattle.firing.specs.declared.fires.Fire.{Fire}
use Rattle.firing.specs.declared.requests.Request.{Request}
use Rattle.firing.specs.Firings.{FireRunOver, FiresTogetherOver}
use Rattle.replicated_log.specs.declared.entries.Entry.{Entry}
use Rattle.replicated_log.specs.EntryLength.{entry_length}
use Rattle.replicated_log.specs.LogContent.{LogContent}
use Rattle.replicated_log.specs.Logs.{LogRunOver, log_of}
use Rattle.replicated_log.specs.PutEntries.{HasEntriesOver, PutsOneOver, SameSinceOver}
use Rattle.replicated_log.specs.PutEntries.{commands_in_turn_over}
use Rattle.replicated_log.specs.ChangingCommands as any_commands
use Rattle.slot_table.specs.declared.lines.SlotLine.{SlotLine}
use Rattle.slot_table.specs.Tables.{Holds, AreApart}
use Rattle.halving_plan.specs.Plans.{HalvingNumbers, IsAccepted}
use Rattle.halving_plan.specs.Laws.{machine_in}
use Rattle.halving_runs.specs.LayerPromises.{counter_of}

module _ (plan : HalvingNumbers) where
  -- the plan's machine, and which states its nodes have
  abbrev machine : Machine
  machine = machine_in plan

  abbrev is_state : (v : ℕ) → State → Type 0
  is_state = IsState machine

  -- node v is correct, and holds at the output that it shows
  pub record HoldsIn (lines : List SlotLine) (faulty : List ℕ) (config : List State)
      (v : ℕ) : Type 0 where
    pub node : v < machine.nodes
    pub correct : is_in faulty v ≡ false
    pub holds : Holds lines v (machine.shows v (state_of config v))

  -- In each configuration of a run, from the bound on, at most one correct node holds.
  abbrev pub AtMostOneHolds : Type 0
  AtMostOneHolds = (lines : List SlotLine) → AreApart lines
      → (faulty : List ℕ) (run : List (List State)) → IsToleratedBy machine faulty
      → Run machine faulty run
      → (t : ℕ) → machine.bound ≤ t → t < length run
      → (u v : ℕ) → HoldsIn lines faulty (configuration run t) u
      → HoldsIn lines faulty (configuration run t) v → u ≡ v

  -- Every run with consensus, if the modulus is a multiple of a slot, decides: each slot that
  -- begins after the bound and ends within the run ends with one decision.
  abbrev pub EveryRunDecides : Type 0
  EveryRunDecides = machine.modulus % slot_length machine.faults ≡ 0
      → (values : ℕ) (inputs : List ℕ) (faulty : List ℕ) → IsToleratedBy machine faulty
      → (first : ℕ) (run : List (Scene ℕ))
      → AgreeRunOver (counter_of plan) is_state values inputs faulty first run
      → DecidesOver (counter_of plan) inputs faulty run

  -- So it does whatever the inputs are in each round.
  abbrev pub ChangingInputsDecide : Type 0
  ChangingInputsDecide = machine.modulus % slot_length machine.faults ≡ 0
      → (values : ℕ) (input : (v t : ℕ) → ℕ) (faulty : List ℕ) → IsToleratedBy machine faulty
      → (first : ℕ) (run : List (Scene any_inputs.Noted))
      → LayerRun (counter_of plan) is_state
      (any_inputs.changing_layer_over (numbers_in (counter_of plan)) values input) faulty first run
      → (t : ℕ) → machine.bound < t → t + slot_length machine.faults < length run
      → AllAre (counter_of plan) faulty (scene run t).states (slot_length machine.faults) 0
      → any_inputs.DecidesOneOver (counter_of plan) values input faulty first run t

  -- In every run with firing, if the modulus is a multiple of a slot, all fire together in each
  -- slot that begins after the bound and ends within the run.
  abbrev pub EveryRunFiresTogether : Type 0
  EveryRunFiresTogether = machine.modulus % slot_length machine.faults ≡ 0
      → (requests : List Request) (faulty : List ℕ) → IsToleratedBy machine faulty
      → (first : ℕ) (run : List (Scene Fire))
      → FireRunOver (counter_of plan) is_state requests faulty first run
      → (t : ℕ) → machine.bound < t → t + slot_length machine.faults < length run
      → AllAre (counter_of plan) faulty (scene run t).states (slot_length machine.faults) 0
      → FiresTogetherOver (counter_of plan) requests faulty first run t

  -- In every run with a log, if the modulus is a multiple of an entry of each node, each slot that
  -- begins at the bound or later and ends within the run puts one entry.
  abbrev pub EverySlotPutsOne : Type 0
  EverySlotPutsOne = HasEntriesOver (counter_of plan)
      → (said : LogContent) (faulty : List ℕ) → IsToleratedBy machine faulty
      → (first : ℕ) (run : List (Scene (List Entry)))
      → LogRunOver (counter_of plan) is_state said faulty first run
      → (t : ℕ) → machine.bound ≤ t → t + entry_length machine.faults < length run
      → AllAre (counter_of plan) faulty (scene run t).states (entry_length machine.faults) 0
      → PutsOneOver (counter_of plan) said.keep log_of
      (commands_in_turn_over (counter_of plan) said) faulty run t

  -- From any such slot on the logs grow as one.
  abbrev pub LogsAreOne : Type 0
  LogsAreOne = HasEntriesOver (counter_of plan)
      → (said : LogContent) (faulty : List ℕ) → IsToleratedBy machine faulty
      → (first : ℕ) (run : List (Scene (List Entry)))
      → LogRunOver (counter_of plan) is_state said faulty first run
      → (t : ℕ) → machine.bound ≤ t → t < length run
      → AllAre (counter_of plan) faulty (scene run t).states (entry_length machine.faults) 0
      → (x : ℕ) → t + x < length run
      → SameSinceOver (counter_of plan) said.keep log_of
      (commands_in_turn_over (counter_of plan) said) faulty run t x

  -- So it is whatever is commanded in each round.
  abbrev pub ChangingCommandsPutOne : Type 0
  ChangingCommandsPutOne = HasEntriesOver (counter_of plan)
      → (values keep : ℕ) (command : (v t : ℕ) → ℕ) (faulty : List ℕ)
      → IsToleratedBy machine faulty
      → (first : ℕ) (run : List (Scene any_commands.Noted))
      → LayerRun (counter_of plan) is_state
      (any_commands.changing_layer_over (numbers_in (counter_of plan)) values keep command) faulty first
      run
      → (t : ℕ) → machine.bound ≤ t → t + entry_length machine.faults < length run
      → AllAre (counter_of plan) faulty (scene run t).states (entry_length machine.faults) 0
      → PutsOneOver (counter_of plan) keep any_commands.log_noted
      (any_commands.commands_before command first) faulty run t

  abbrev pub ChangingLogsAreOne : Type 0
  ChangingLogsAreOne = HasEntriesOver (counter_of plan)
      → (values keep : ℕ) (command : (v t : ℕ) → ℕ) (faulty : List ℕ)
      → IsToleratedBy machine faulty
      → (first : ℕ) (run : List (Scene any_commands.Noted))
      → LayerRun (counter_of plan) is_state
      (any_commands.changing_layer_over (numbers_in (counter_of plan)) values keep command) faulty first
      run
      → (t : ℕ) → machine.bound ≤ t → t < length run
      → AllAre (counter_of plan) faulty (scene run t).states (entry_length machine.faults) 0
      → (x : ℕ) → t + x < length run
      → SameSinceOver (counter_of plan) keep any_commands.log_noted
      (any_commands.commands_before command first) faulty run t x

  -- The plan's counter is one that a layer may stand on, so that all laws of such counters hold of
  -- it, and these in its own words.
  pub record KeepsEveryRun : Type 0 where
    pub settling : IsSettling (counter_of plan) is_state
    pub holds : AtMostOneHolds
    pub decides : EveryRunDecides
    pub changing : ChangingInputsDecide
    pub fires : EveryRunFiresTogether
    pub puts : EverySlotPutsOne
    pub logs : LogsAreOne
    pub changing_puts : ChangingCommandsPutOne
    pub changing_logs : ChangingLogsAreOne

-- So it is with each accepted plan.
abbrev pub EveryRunKeeps : Type 0
EveryRunKeeps = (plan : HalvingNumbers) → IsAccepted plan → KeepsEveryRun plan
