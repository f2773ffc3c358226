-- What holds of the run of a plan and a script with a layer above the plan's counter.
use Rattle.std.specs.Prelude.{◌≡◌, ℕ, ◌+◌, ◌<◌, ◌≤◌, List, [], length, Ok, true, replicate}
use Rattle.counter_core.specs.Meanings.{Meaning}
use Rattle.counter_core.specs.Overlays.{Layer}
use Rattle.machines.specs.Machines.{Machine, IsToleratedBy, IsLocked}
use Rattle.adversary_script.specs.Scripts.{Script}
use Rattle.adversary_script.specs.Eras.{first_of_era, end_of_era, faulty_of_era, faulty_at}
use Rattle.machine_runner.specs.Laws.{IsUpTo}
use Rattle.machine_runner.specs.Locks.{is_locked, IsFirstLocked}
use Rattle.layer_laws.specs.CounterSlots.{slot_length, AllAre}
use Rattle.layer_laws.specs.CounterLayers.{scene}
use Rattle.layer_runner.specs.CountedSlots.{SlotsAreExact}
use Rattle.layer_runner.specs.DecisionTexts.{agree_scene}
use Rattle.layer_runner.specs.EntryTexts.{log_scene}
use Rattle.layer_runner.specs.FireTexts.{fire_scene}
use Rattle.layer_runner.specs.LinePromises.{LineDecides, LineFires, LinePuts}
use Rattle.layer_runner.specs.LockTexts.{lock_of_era}
use Rattle.layer_runner.specs.PlayedScripts.{PlaysScript}
use Rattle.layer_runner.specs.SlotTexts.{begins_at}
use Rattle.player.specs.Counters.{machine_counter}
use Rattle.player.specs.ReadOver.{IsReadWithLayer}
use Rattle.layer_runner.specs.Laws.{played_states, era_scenes, EraIsLayerRun, EraCountsFrom}
use Rattle.layer_runner.specs.Laws.{EraStaysLocked}
use Rattle.consensus_layer.specs.AgreeContent.{AgreeContent}
use Rattle.consensus_layer.specs.Agreements.{agree_layer_over, DecidesOver}
use Rattle.firing.specs.declared.fires.Fire.{Fire}
use Rattle.firing.specs.declared.requests.Request.{Request}
use Rattle.firing.specs.Firings.{fire_layer_over, unfired, FiresTogetherOver}
use Rattle.replicated_log.specs.declared.entries.Entry.{Entry}
use Rattle.replicated_log.specs.EntryLength.{entry_length}
use Rattle.replicated_log.specs.LogContent.{LogContent}
use Rattle.replicated_log.specs.Logs.{log_layer_over, log_of}
use Rattle.replicated_log.specs.PutEntries.{PutsOneOver, SameSinceOver, commands_in_turn_over}
use Rattle.halving_plan.specs.Plans.{HalvingNumbers, IsAccepted}
use Rattle.halving_plan.specs.Laws.{machine_in}
use Rattle.halving_runs.specs.RunInputs.{Layered}
use Rattle.halving_runs.specs.LayerInputs.{numbers_of, agreed_of, firing_of, logging_of}
use Rattle.halving_runs.specs.LayerReadings.{FitsAgreed, FitsRequests, FitsLog}

-- What is played of an era is a run with the layer and with few faulty nodes, whose first round is
-- that of the era, and whose lies are the script's. From T rounds into it to its end the correct
-- nodes count. The first locked configuration that is written of it is the first one, and from
-- each locked one on they stay locked and count.
pub record EraKeepsLayer {Kept : Type 0} (machine : Machine) (script : Script) (layer : Layer Kept)
    (began : List Kept) (j : ℕ) : Type 0 where
  pub borne : IsToleratedBy machine (faulty_of_era script j)
  pub run : EraIsLayerRun machine script layer began j
  pub counts :
      EraCountsFrom machine script layer began j (first_of_era script j + machine.bound)
  pub first : IsFirstLocked machine script (played_states machine script layer began) j
      script.rounds
      (lock_of_era (is_locked machine) script (played_states machine script layer began) j)
  pub by_bound : first_of_era script j + machine.bound < end_of_era script j
      → IsUpTo (first_of_era script j + machine.bound)
      (lock_of_era (is_locked machine) script (played_states machine script layer began) j)
  pub stays : (t : ℕ) → first_of_era script j ≤ t → t < end_of_era script j
      → IsLocked machine (faulty_at script t) (played_states machine script layer began t)
      → EraStaysLocked machine script layer began j t

-- The plan is accepted, and the script is one for its machine with the layer above. What is played
-- is the script's, if the nodes began with these things kept, and so it is of each era.
pub record LayerKeepsPromise {Kept : Type 0} (plan : HalvingNumbers) (layer : Layer Kept)
    (began : List Kept) (script : Script) : Type 0 where
  pub accepted : IsAccepted plan
  pub read : IsReadWithLayer (machine_in plan) layer script
  pub plays : PlaysScript (machine_counter (machine_in plan)) script layer began
  pub eras : (j : ℕ) → j ≤ length script.eras
      → EraKeepsLayer (machine_in plan) script layer began j

module _ (plan : HalvingNumbers) where
  -- the plan's counter
  abbrev pub counter_of : Meaning
  counter_of = machine_counter (machine_in plan)

  -- the layers above it, and what nodes keep at first: each decision is 0, none fires, and all logs
  -- are empty
  abbrev pub agreeing : AgreeContent → Layer ℕ
  agreeing said = agree_layer_over (numbers_of plan) said.values said.inputs

  abbrev pub undecided : List ℕ
  undecided = replicate counter_of.nodes 0

  abbrev pub firing_on : List Request → Layer Fire
  firing_on requests = fire_layer_over (numbers_of plan) requests

  abbrev pub none_fired : List Fire
  none_fired = replicate counter_of.nodes unfired

  abbrev pub logging : LogContent → Layer (List Entry)
  logging said = log_layer_over (numbers_of plan) said

  abbrev pub nothing_logged : List (List Entry)
  nothing_logged = replicate counter_of.nodes []

  -- In each era, each slot that begins later than T rounds into it and ends in it ends with one
  -- decision of all correct nodes, which is their common input if they have one. Just such slots
  -- have a line, if they begin in a configuration that is shown, and its words are the decision.
  pub record DecisionsKeepPromise (said : AgreeContent) (script : Script) : Type 0 where
    pub run : LayerKeepsPromise plan (agreeing said) undecided script
    pub fits : FitsAgreed plan said
    pub decides : (j : ℕ) → j ≤ length script.eras
        → DecidesOver counter_of said.inputs (faulty_of_era script j)
        (era_scenes (machine_in plan) script (agreeing said) undecided j)
    pub slots : SlotsAreExact counter_of script
        (λ c. (agree_scene counter_of script said c).states) (slot_length counter_of.faults)
    pub lines : (t : ℕ)
        → begins_at counter_of script (slot_length counter_of.faults) t
        (agree_scene counter_of script said t).states ≡ true
        → LineDecides counter_of script said t

  -- In each era, when such a slot ends, all correct nodes fire or none does: as they requested in
  -- the round before it, if they did the same. Inside a slot none fires. Just such slots have a
  -- line, if they begin in a configuration that is shown, and its words say who fires.
  pub record FiresKeepPromise (requests : List Request) (script : Script) : Type 0 where
    pub run : LayerKeepsPromise plan (firing_on requests) none_fired script
    pub fits : FitsRequests plan requests
    pub together : (j : ℕ) → j ≤ length script.eras
        → let played = era_scenes (machine_in plan) script (firing_on requests) none_fired j in
        (t : ℕ) → counter_of.bound < t → t + slot_length counter_of.faults < length played
        → AllAre counter_of (faulty_of_era script j) (scene played t).states
        (slot_length counter_of.faults) 0
        → FiresTogetherOver counter_of requests (faulty_of_era script j) (first_of_era script j)
        played t
    pub slots : SlotsAreExact counter_of script
        (λ c. (fire_scene counter_of script requests c).states) (slot_length counter_of.faults)
    pub lines : (t : ℕ)
        → begins_at counter_of script (slot_length counter_of.faults) t
        (fire_scene counter_of script requests t).states ≡ true
        → LineFires counter_of script requests t

  -- In each era, each slot that begins at T rounds into it or later and ends in it puts one entry
  -- into the logs of all correct nodes, so that since any such slot all have put the same. If it
  -- begins later than T, the entry is what its owner commands, if that is correct. Just the slots
  -- that begin later have a line, if they begin in a configuration that is shown, and its words are
  -- the entry's value.
  pub record EntriesKeepPromise (said : LogContent) (script : Script) : Type 0 where
    pub run : LayerKeepsPromise plan (logging said) nothing_logged script
    pub fits : FitsLog plan said
    pub puts : (j : ℕ) → j ≤ length script.eras
        → let played = era_scenes (machine_in plan) script (logging said) nothing_logged j in
        (t : ℕ) → counter_of.bound ≤ t → t + entry_length counter_of.faults < length played
        → AllAre counter_of (faulty_of_era script j) (scene played t).states
        (entry_length counter_of.faults) 0
        → PutsOneOver counter_of said.keep log_of (commands_in_turn_over counter_of said)
        (faulty_of_era script j) played t
    pub same : (j : ℕ) → j ≤ length script.eras
        → let played = era_scenes (machine_in plan) script (logging said) nothing_logged j in
        (t : ℕ) → counter_of.bound ≤ t → t < length played
        → AllAre counter_of (faulty_of_era script j) (scene played t).states
        (entry_length counter_of.faults) 0
        → (x : ℕ) → t + x < length played
        → SameSinceOver counter_of said.keep log_of (commands_in_turn_over counter_of said)
        (faulty_of_era script j) played t x
    pub slots : SlotsAreExact counter_of script
        (λ c. (log_scene counter_of script said c).states) (entry_length counter_of.faults)
    pub lines : (t : ℕ)
        → begins_at counter_of script (entry_length counter_of.faults) t
        (log_scene counter_of script said t).states ≡ true
        → LinePuts counter_of script said t

-- So it is with each input that is read as a plan, such a part and a script.
pub record LayersKeepPromise : Type 0 where
  pub consensus : (input : List ℕ) (read : Layered AgreeContent) → agreed_of input ≡ Ok read
      → DecisionsKeepPromise read.plan read.said read.script
  pub fire : (input : List ℕ) (read : Layered (List Request)) → firing_of input ≡ Ok read
      → FiresKeepPromise read.plan read.said read.script
  pub log : (input : List ℕ) (read : Layered LogContent) → logging_of input ≡ Ok read
      → EntriesKeepPromise read.plan read.said read.script
