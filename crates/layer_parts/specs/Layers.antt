-- Consensus, firing and a log as parts that say a layer.
use Rattle.std.specs.Prelude.{ℕ, List, [], Option, Some}
use Rattle.layer_laws.specs.Slots.{slot_length}
use Rattle.consensus_layer.specs.AgreeContent.{AgreeContent}
use Rattle.consensus_layer.specs.Agreements.{agree_layer_over}
use Rattle.firing.specs.declared.requests.Request.{Request}
use Rattle.firing.specs.declared.fires.Fire.{Fire}
use Rattle.firing.specs.Firings.{fire_layer_over, unfired}
use Rattle.replicated_log.specs.declared.entries.Entry.{Entry}
use Rattle.replicated_log.specs.LogContent.{LogContent}
use Rattle.replicated_log.specs.Logs.{log_layer_over}
use Rattle.layer_runner.specs.DecisionTexts.{decision_text, decision_wording}
use Rattle.layer_runner.specs.FireTexts.{fire_text, fire_wording}
use Rattle.layer_runner.specs.EntryTexts.{log_text, entry_wording}
use Rattle.layer_parts.specs.declared.registers.Registers.{Registers}
use Rattle.layer_parts.specs.LayerWords.{LayerWords}

-- ---- consensus: one register of the values that are said

abbrev pub agree_registers : AgreeContent → Option Registers
agree_registers said = Some (record { values = said.values; count = 1 })

abbrev pub agree_words : LayerWords AgreeContent ℕ
agree_words = record {
  layer = λ numbers said. agree_layer_over numbers said.values said.inputs;
  first = 0;
  wording = λ numbers. decision_wording (slot_length numbers.faults);
  text = decision_text;
}

-- ---- requests to fire: one register of two values

abbrev pub fire_registers : List Request → Option Registers
fire_registers requests = Some (record { values = 2; count = 1 })

abbrev pub fire_words : LayerWords (List Request) Fire
fire_words = record {
  layer = fire_layer_over;
  first = unfired;
  wording = λ numbers. fire_wording (slot_length numbers.faults);
  text = fire_text;
}

-- ---- a log: two registers of its values

abbrev pub log_registers : LogContent → Option Registers
log_registers said = Some (record { values = said.values; count = 2 })

abbrev pub log_words : LayerWords LogContent (List Entry)
log_words = record {
  layer = log_layer_over;
  first = [];
  wording = λ numbers. entry_wording numbers.nodes numbers.faults numbers.modulus;
  text = log_text;
}
