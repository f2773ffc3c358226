-- What is written while a script is played is the text that is defined by where slots begin.
use Rattle.std.specs.Prelude.{◌≡◌, ℕ, ◌*◌, ◌%◌, List, [], replicate}
use Rattle.counter_core.specs.Meanings.{Meaning}
use Rattle.counter_core.specs.Overlays.{Layer}
use Rattle.adversary_script.specs.Scripts.{Script}
use Rattle.machine_runner.specs.FirstLocked.{LockTest}
use Rattle.layer_laws.specs.Numbers.{numbers_in}
use Rattle.layer_laws.specs.Slots.{slot_length}
use Rattle.consensus_layer.specs.AgreeContent.{AgreeContent}
use Rattle.consensus_layer.specs.Agreements.{agree_layer_over}
use Rattle.firing.specs.declared.requests.Request.{Request}
use Rattle.firing.specs.declared.fires.Fire.{Fire}
use Rattle.firing.specs.Firings.{fire_layer_over, unfired}
use Rattle.replicated_log.specs.declared.entries.Entry.{Entry}
use Rattle.replicated_log.specs.EntryLength.{entry_length}
use Rattle.replicated_log.specs.LogContent.{LogContent}
use Rattle.replicated_log.specs.Logs.{log_layer_over}
use Rattle.layer_runner.specs.PlayedTexts.{played_text}
use Rattle.layer_runner.specs.Counting.{ErasCount}
use Rattle.layer_runner.specs.DecisionTexts.{decision_text, decision_wording}
use Rattle.layer_runner.specs.FireTexts.{fire_text, fire_wording}
use Rattle.layer_runner.specs.EntryTexts.{log_text, entry_wording}

-- the lines of consensus, if the modulus is a multiple of a slot
abbrev pub DecisionsAsDefined : Type 0
DecisionsAsDefined = (counter : Meaning) (locked : LockTest) (script : Script) (said : AgreeContent)
    → counter.modulus % slot_length counter.faults ≡ 0
    → let layer : Layer ℕ = agree_layer_over (numbers_in counter) said.values said.inputs in
    ErasCount counter script layer (replicate counter.nodes 0)
    → played_text counter locked script layer (replicate counter.nodes 0)
    (decision_wording (slot_length counter.faults))
    ≡ decision_text counter locked script said

-- the lines of firing, if it is one
abbrev pub FiresAsDefined : Type 0
FiresAsDefined = (counter : Meaning) (locked : LockTest) (script : Script)
    (requests : List Request) → counter.modulus % slot_length counter.faults ≡ 0
    → let layer : Layer Fire = fire_layer_over (numbers_in counter) requests in
    ErasCount counter script layer (replicate counter.nodes unfired)
    → played_text counter locked script layer (replicate counter.nodes unfired)
    (fire_wording (slot_length counter.faults))
    ≡ fire_text counter locked script requests

-- the lines of a log, if the modulus is a multiple of an entry of each node
abbrev pub EntriesAsDefined : Type 0
EntriesAsDefined = (counter : Meaning) (locked : LockTest) (script : Script) (said : LogContent)
    → counter.modulus % (counter.nodes * entry_length counter.faults) ≡ 0
    → let layer : Layer (List Entry) = log_layer_over (numbers_in counter) said in
    ErasCount counter script layer (replicate counter.nodes [])
    → played_text counter locked script layer (replicate counter.nodes [])
    (entry_wording counter.nodes counter.faults counter.modulus)
    ≡ log_text counter locked script said
