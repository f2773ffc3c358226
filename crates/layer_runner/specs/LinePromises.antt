-- What the words in lines of slots are.
use Rattle.std.specs.Prelude.{◌≡◌, ℕ, ◌+◌, ◌-◌, ◌<◌, List, ◌∷◌, [], Bool, true, false, replicate}
use Rattle.std.specs.Prelude.{slice_index}
use Rattle.sync_types.specs.FaultSets.{is_in}
use Rattle.sync_types.specs.States.{State}
use Rattle.counter_core.specs.Meanings.{Meaning}
use Rattle.adversary_script.specs.Scripts.{Script}
use Rattle.adversary_script.specs.Eras.{faulty_at}
use Rattle.machine_runner.specs.RunTexts.{number_word}
use Rattle.layer_laws.specs.CounterSlots.{slot_length}
use Rattle.layer_laws.specs.Numbers.{numbers_in}
use Rattle.layer_runner.specs.PlayedEras.{PlaysEras}
use Rattle.consensus_layer.specs.AgreeContent.{AgreeContent}
use Rattle.consensus_layer.specs.AgreePart as agree
use Rattle.consensus_layer.specs.Agreements.{agree_layer_over}
use Rattle.firing.specs.declared.requests.Request.{Request}
use Rattle.firing.specs.FirePart.{AreForNumbers}
use Rattle.firing.specs.Firings.{fire_layer_over, requests_in, unfired}
use Rattle.replicated_log.specs.declared.entries.Entry.{Entry}
use Rattle.replicated_log.specs.EntryLength.{entry_length, owner_at, command_at}
use Rattle.replicated_log.specs.LogContent.{LogContent}
use Rattle.replicated_log.specs.LogPart as log
use Rattle.replicated_log.specs.Logs.{log_layer_over, log_of}
use Rattle.layer_runner.specs.SlotTexts.{begins_at}
use Rattle.layer_runner.specs.DecisionTexts.{slot_of, agree_scene, decision_word}
use Rattle.layer_runner.specs.FireTexts.{fire_scene, fired_word, fire_word}
use Rattle.layer_runner.specs.EntryTexts.{log_scene, output_at, slot_owner, entry_word}

-- the words of all nodes that are correct in configuration c are this one
abbrev pub AllSay : Meaning → Script → (c : ℕ) → (word_of : ℕ → List ℕ) → (word : List ℕ) → Type 0
AllSay counter script c word_of word = (v : ℕ) → v < counter.nodes
    → is_in (faulty_at script c) v ≡ false → word_of v ≡ word

-- ---- consensus

-- the line of a slot that begins in configuration t has one decision
pub record LineDecides (counter : Meaning) (script : Script) (said : AgreeContent) (t : ℕ)
    : Type 0 where
  pub value : ℕ
  pub words : AllSay counter script (t + slot_of counter script said)
      (decision_word (agree_scene counter script said (t + slot_of counter script said)))
      (number_word value)
  pub valid : (common : ℕ) → ((v : ℕ) → v < counter.nodes → is_in (faulty_at script t) v ≡ false
      → slice_index said.inputs v ≡ common) → value ≡ common

abbrev pub LinesDecideOver : (counter : Meaning) (is_state : (v : ℕ) → State → Type 0) → Type 0
LinesDecideOver counter is_state = (script : Script) (said : AgreeContent)
    → agree.IsForNumbers (numbers_in counter) said
    → PlaysEras counter is_state script
    (agree_layer_over (numbers_in counter) said.values said.inputs) (replicate counter.nodes 0)
    → (t : ℕ)
    → begins_at counter script (slot_of counter script said) t
    (agree_scene counter script said t).states ≡ true
    → LineDecides counter script said t

-- ---- firing

-- the line of a slot that begins in configuration t: all fire, or none
pub record LineFires (counter : Meaning) (script : Script) (requests : List Request) (t : ℕ)
    : Type 0 where
  pub fired : Bool
  pub words : let c = t + slot_length counter.faults in
      AllSay counter script c (fire_word (fire_scene counter script requests c)) (fired_word fired)
  pub valid : (common : Bool)
      → ((v : ℕ) → v < counter.nodes → is_in (faulty_at script t) v ≡ false
      → requests_in requests v (t - 1) ≡ common) → fired ≡ common

abbrev pub LinesFireTogetherOver : (counter : Meaning) (is_state : (v : ℕ) → State → Type 0)
    → Type 0
LinesFireTogetherOver counter is_state = (script : Script) (requests : List Request)
    → AreForNumbers (numbers_in counter) requests
    → PlaysEras counter is_state script (fire_layer_over (numbers_in counter) requests)
    (replicate counter.nodes unfired)
    → (t : ℕ)
    → begins_at counter script (slot_length counter.faults) t
    (fire_scene counter script requests t).states ≡ true
    → LineFires counter script requests t

-- ---- the log

-- the newest entry of a log
pub record HasNewest (log : List Entry) (entry : Entry) : Type 0 where
  pub older : List Entry
  pub is : log ≡ entry ∷ older

-- The line of a slot that begins in configuration t: its entry stands newest in the log of each
-- correct node, and the words are the entry's value. If the owner that the line names is correct,
-- this is what the owner commands at the slot's output.
pub record LinePuts (counter : Meaning) (script : Script) (said : LogContent) (t : ℕ) : Type 0 where
  pub entry : Entry
  pub slot : entry.slot ≡ output_at counter script said t
  pub logs : let c = t + entry_length counter.faults in
      (v : ℕ) → v < counter.nodes → is_in (faulty_at script c) v ≡ false
      → HasNewest (log_of (log_scene counter script said c) v) entry
  pub words : let c = t + entry_length counter.faults in
      AllSay counter script c (entry_word (log_scene counter script said c))
      (number_word entry.value)
  pub owner : slot_owner counter script said t
      ≡ owner_at counter.nodes counter.faults entry.slot
  pub commanded : let owner = slot_owner counter script said t in
      is_in (faulty_at script t) owner ≡ false
      → entry.value
      ≡ command_at counter.nodes counter.faults said.commands owner entry.slot

abbrev pub LinesPutOneOver : (counter : Meaning) (is_state : (v : ℕ) → State → Type 0) → Type 0
LinesPutOneOver counter is_state = (script : Script) (said : LogContent)
    → log.IsForNumbers (numbers_in counter) said
    → PlaysEras counter is_state script (log_layer_over (numbers_in counter) said)
    (replicate counter.nodes [])
    → (t : ℕ)
    → begins_at counter script (entry_length counter.faults) t
    (log_scene counter script said t).states ≡ true
    → LinePuts counter script said t
