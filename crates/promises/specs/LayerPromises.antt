-- What the lines of words that play a layer promise, whatever the input.
use Rattle.std.specs.Prelude.{◌≡◌, ℕ, ◌+◌, ◌<◌, ◌≤◌, List, [], true, false, codes, replicate, IfOk}
use Rattle.construction.specs.Plans.{Plan, plan_nodes, plan_faults, plan_bound}
use Rattle.construction.specs.Runs.{is_in}
use Rattle.adversary_script.specs.Scripts.{Script}
use Rattle.adversary_script.specs.Eras.{era_of, first_of_era, faulty_at}
use Rattle.round_runner.specs.Played.{played_at}
use Rattle.layer_laws.specs.Slots.{slot_length}
use Rattle.slot_table.specs.declared.lines.SlotLine.{SlotLine}
use Rattle.consensus_layer.specs.AgreeContent.{AgreeContent}
use Rattle.consensus_layer.specs.Agreements.{agree_layer}
use Rattle.firing.specs.declared.requests.Request.{Request}
use Rattle.firing.specs.Firings.{fire_layer, unfired}
use Rattle.replicated_log.specs.EntryLength.{entry_length}
use Rattle.replicated_log.specs.LogContent.{LogContent}
use Rattle.replicated_log.specs.Logs.{log_layer}
use Rattle.run_lines.specs.SlotTexts.{begins_at}
use Rattle.run_lines.specs.HoldTexts.{hold_word}
use Rattle.run_lines.specs.LayerLaws.{HoldWordIs}
use Rattle.run_lines.specs.DecisionTexts.{slot_of, agree_scene}
use Rattle.run_lines.specs.FireTexts.{fire_scene}
use Rattle.run_lines.specs.EntryTexts.{log_scene}
use Rattle.promises.specs.CountedSlots.{SlotsAreExact}
use Rattle.promises.specs.LayeredEras.{PlaysScript}
use Rattle.promises.specs.PlainRuns.{PlaysPlain}
use Rattle.promises.specs.Promises.{LineDecides, LineFires, LinePuts}
use Rattle.promises.specs.WrittenLines.{HoldsAreWritten, DecisionsAreWritten, FiresAreWritten}
use Rattle.promises.specs.WrittenLines.{EntriesAreWritten}
use Rattle.outcomes.specs.Layered.{slotted_of, agreed_of, firing_of, logging_of}
use Rattle.promises.specs.LayerParts.{GivesOutputs, RequestsAreSaid, TakesTurns}

-- What is played is the script's, and what is written are its lines. A node's word in a line is 1
-- exactly if the table gives it the output that it shows, which it does from the first output of a
-- line to the last; from the bound on, in each era, at most one word of a line is.
pub record KeepsHolds (plan : Plan) (script : Script) (table : List SlotLine) : Type 0 where
  pub played : PlaysPlain plan script
  pub written : HoldsAreWritten plan script table
  pub words : (t v : ℕ) → HoldWordIs plan table (played_at plan script t) v
  pub gives : GivesOutputs
  pub one : (t : ℕ) → first_of_era script (era_of script t) + plan_bound plan ≤ t
      → t ≤ script.rounds
      → (u v : ℕ) → u < plan_nodes plan → is_in (faulty_at script t) u ≡ false
      → v < plan_nodes plan → is_in (faulty_at script t) v ≡ false
      → hold_word plan table (played_at plan script t) u ≡ codes " 1"
      → hold_word plan table (played_at plan script t) v ≡ codes " 1" → u ≡ v

abbrev pub HoldsAreKept : Type 0
HoldsAreKept = (input : List ℕ)
    → IfOk (slotted_of input) (λ read. KeepsHolds read.plan read.script read.said)

-- What is played is the script's, with each decision 0 at first. There is a line of each slot that
-- counts and begins in a configuration that is shown, and it has one decision.
pub record KeepsDecisions (plan : Plan) (script : Script) (said : AgreeContent) : Type 0 where
  pub played : PlaysScript plan script (agree_layer plan said.values said.inputs)
      (replicate (plan_nodes plan) 0)
  pub written : DecisionsAreWritten plan script said
  pub slots : SlotsAreExact plan script (λ c. (agree_scene plan script said c).states)
      (slot_of plan script said)
  pub lines : (t : ℕ)
      → begins_at plan script (slot_of plan script said) t (agree_scene plan script said t).states
      ≡ true
      → LineDecides plan script said t

abbrev pub DecisionsAreKept : Type 0
DecisionsAreKept = (input : List ℕ)
    → IfOk (agreed_of input) (λ read. KeepsDecisions read.plan read.script read.said)

-- What is played is the script's, and none fires at first. There is a line of each slot that counts
-- and begins in a configuration that is shown, and in it all fire, or none does. A node requests in
-- the rounds of which a line says so.
pub record KeepsFires (plan : Plan) (script : Script) (requests : List Request) : Type 0 where
  pub played : PlaysScript plan script (fire_layer plan requests)
      (replicate (plan_nodes plan) unfired)
  pub written : FiresAreWritten plan script requests
  pub slots : SlotsAreExact plan script (λ c. (fire_scene plan script requests c).states)
      (slot_length (plan_faults plan))
  pub lines : (t : ℕ)
      → begins_at plan script (slot_length (plan_faults plan)) t
      (fire_scene plan script requests t).states ≡ true
      → LineFires plan script requests t
  pub asked : RequestsAreSaid requests

abbrev pub FiresAreKept : Type 0
FiresAreKept = (input : List ℕ)
    → IfOk (firing_of input) (λ read. KeepsFires read.plan read.script read.said)

-- What is played is the script's, with all logs empty at first. There is a line of each slot that
-- counts and begins in a configuration that is shown, and it has one value, which its owner
-- commands if it is correct.
pub record KeepsEntries (plan : Plan) (script : Script) (said : LogContent) : Type 0 where
  pub played : PlaysScript plan script (log_layer plan said) (replicate (plan_nodes plan) [])
  pub written : EntriesAreWritten plan script said
  pub slots : SlotsAreExact plan script (λ c. (log_scene plan script said c).states)
      (entry_length (plan_faults plan))
  pub lines : (t : ℕ)
      → begins_at plan script (entry_length (plan_faults plan)) t
      (log_scene plan script said t).states ≡ true
      → LinePuts plan script said t
  pub turns : TakesTurns (plan_nodes plan) (plan_faults plan) said.commands

abbrev pub EntriesAreKept : Type 0
EntriesAreKept = (input : List ℕ)
    → IfOk (logging_of input) (λ read. KeepsEntries read.plan read.script read.said)
