-- What the lines of words that play a layer promise, by what their parts are read as.
use Rattle.std.proofs.Common.{ℕ, List, [], replicate}
use Rattle.construction.specs.Plans.{Plan, plan_nodes, plan_faults, plan_modulus, plan_depth}
use Rattle.counter_core.specs.Overlays.{Layer}
use Rattle.round_runner.specs.Laws as bare
use Rattle.round_runner.specs.Played.{played_at}
use Rattle.layer_laws.specs.Slots.{slot_length}
use Rattle.layer_laws.proofs.PlanSlots.{quorum_of}
use Rattle.slot_table.specs.declared.lines.SlotLine.{SlotLine}
use Rattle.slot_table.specs.SlotPart as slots
use Rattle.consensus_layer.specs.AgreeContent.{AgreeContent}
use Rattle.consensus_layer.specs.AgreePart as agree
use Rattle.consensus_layer.specs.AgreeLaws.{agree_keeps}
use Rattle.firing.specs.declared.requests.Request.{Request}
use Rattle.firing.specs.declared.fires.Fire.{Fire}
use Rattle.firing.specs.Firings.{fire_layer, unfired}
use Rattle.firing.specs.FirePart as fire
use Rattle.firing.specs.FireLaws.{fire_keeps}
use Rattle.replicated_log.specs.declared.entries.Entry.{Entry}
use Rattle.replicated_log.specs.EntryLength.{entry_length}
use Rattle.replicated_log.specs.LogContent.{LogContent}
use Rattle.replicated_log.specs.Logs.{log_layer}
use Rattle.replicated_log.specs.LogPart as log
use Rattle.replicated_log.specs.LogLaws.{log_keeps}
use Rattle.run_lines.specs.LayerLaws.{AtMostOneInALine, HoldWordsAreExact}
use Rattle.promises.specs.LayeredEras.{IsReadFor, ScriptsArePlayed}
use Rattle.promises.specs.PlainRuns.{PlainScriptsArePlayed}
use Rattle.promises.specs.Promises.{LinesDecide, LinesFireTogether, LinesPutOne}
use Rattle.promises.specs.CountedSlots.{SlotsCount}
use Rattle.promises.specs.WrittenLines.{TextsAreWritten}
use Rattle.promises.proofs.Lines.{kept_for}
use Rattle.outcomes.specs.Layered.{Layered, slots_shape}
use Rattle.outcomes.proofs.LayeredRead.{IsRead, IsToPlay, so, agreed_layer, slots_read}
use Rattle.outcomes.proofs.LayeredRead.{decisions_to_play, fires_to_play, entries_to_play}
use Rattle.promises.specs.LayerPromises.{KeepsHolds, KeepsDecisions, KeepsFires, KeepsEntries}
use Rattle.promises.specs.LayerPromises.{HoldsAreKept, DecisionsAreKept, FiresAreKept}
use Rattle.promises.specs.LayerPromises.{EntriesAreKept}
use Rattle.promises.proofs.LayerParts.{gives_outputs, requests_are_said, takes_turns}

-- the script was read for the plan and the layer
pub played : {Content Kept : Type 0} {Fits : Plan → Content → Type 0}
    {layer_of : Plan → Content → Layer Kept}
    (l : Layered Content) → IsToPlay Fits layer_of l
    → IsReadFor l.plan (layer_of l.plan l.said) l.script
played l is = record {
  accepted = is.accepted;
  right = is.right;
  whole = is.whole;
  sound = is.sound;
}

-- ---- of a part and a script that were read

module _ (plays : PlainScriptsArePlayed) (texts : TextsAreWritten) (exact : HoldWordsAreExact)
    (law : AtMostOneInALine) where
  holds_of : (l : Layered (List SlotLine)) → IsRead slots_shape slots.AreFor l
      → KeepsHolds l.plan l.script l.said
  holds_of l read =
      let is : bare.IsReadFor l.plan l.script =
      record { accepted = read.accepted; right = read.right; whole = read.whole } in
      record {
        played = plays l.plan l.script is;
        written = texts.holds l.plan l.script l.said;
        gives = gives_outputs;
        words = λ t v. exact l.plan l.said read.fits.apart (played_at l.plan l.script t) v;
        one = law l.plan l.script is l.said read.fits.apart;
      }

module _ (plays : (layer : Layer ℕ) → ScriptsArePlayed layer) (texts : TextsAreWritten)
    (count : (layer : Layer ℕ) → SlotsCount layer) (law : LinesDecide) where
  decisions_of : (l : Layered AgreeContent) → IsToPlay agree.IsAgreeForPlan agreed_layer l
      → KeepsDecisions l.plan l.script l.said
  decisions_of l read =
      let keeps = agree_keeps (plan_nodes l.plan) (plan_faults l.plan) (plan_modulus l.plan)
      (plan_depth l.plan) l.said.values l.said.inputs (quorum_of l.plan read.accepted)
      read.fits.nodes read.fits.range in
      record {
        played = plays (agreed_layer l.plan l.said) l.plan l.script keeps (played l read)
            (replicate (plan_nodes l.plan) 0) (kept_for (plan_nodes l.plan) 0);
        written = texts.decisions l.plan l.script l.said;
        slots =
            count (agreed_layer l.plan l.said) l.plan l.script keeps (played l read)
            (replicate (plan_nodes l.plan) 0) (kept_for (plan_nodes l.plan) 0)
            (slot_length (plan_faults l.plan));
        lines = law l.plan l.script l.said read.fits (played l read);
      }

module _ (plays : (layer : Layer Fire) → ScriptsArePlayed layer) (texts : TextsAreWritten)
    (count : (layer : Layer Fire) → SlotsCount layer) (law : LinesFireTogether) where
  fires_of : (l : Layered (List Request)) → IsToPlay fire.AreFor fire_layer l
      → KeepsFires l.plan l.script l.said
  fires_of l read =
      let keeps = fire_keeps (plan_nodes l.plan) (plan_faults l.plan) (plan_modulus l.plan)
      (plan_depth l.plan) l.said (quorum_of l.plan read.accepted) in
      record {
        played = plays (fire_layer l.plan l.said) l.plan l.script keeps (played l read)
            (replicate (plan_nodes l.plan) unfired) (kept_for (plan_nodes l.plan) unfired);
        written = texts.fires l.plan l.script l.said;
        slots =
            count (fire_layer l.plan l.said) l.plan l.script keeps (played l read)
            (replicate (plan_nodes l.plan) unfired) (kept_for (plan_nodes l.plan) unfired)
            (slot_length (plan_faults l.plan));
        lines = law l.plan l.script l.said read.fits (played l read);
        asked = requests_are_said l.said;
      }

module _ (plays : (layer : Layer (List Entry)) → ScriptsArePlayed layer) (texts : TextsAreWritten)
    (count : (layer : Layer (List Entry)) → SlotsCount layer) (law : LinesPutOne) where
  entries_of : (l : Layered LogContent) → IsToPlay log.IsLogForPlan log_layer l
      → KeepsEntries l.plan l.script l.said
  entries_of l read =
      let keeps = log_keeps (plan_nodes l.plan) (plan_faults l.plan) (plan_modulus l.plan)
      (plan_depth l.plan) l.said.values l.said.keep l.said.commands
      (quorum_of l.plan read.accepted) read.fits.nodes read.fits.range in
      record {
        played = plays (log_layer l.plan l.said) l.plan l.script keeps (played l read)
            (replicate (plan_nodes l.plan) []) (kept_for (plan_nodes l.plan) []);
        written = texts.entries l.plan l.script l.said;
        slots =
            count (log_layer l.plan l.said) l.plan l.script keeps (played l read)
            (replicate (plan_nodes l.plan) []) (kept_for (plan_nodes l.plan) [])
            (entry_length (plan_faults l.plan));
        lines = law l.plan l.script l.said read.fits (played l read);
        turns = takes_turns (plan_nodes l.plan) (plan_faults l.plan) l.said.commands;
      }

-- ---- of inputs

pub holds_kept : PlainScriptsArePlayed → TextsAreWritten → HoldWordsAreExact → AtMostOneInALine
    → HoldsAreKept
holds_kept plays texts exact law input = so _ (slots_read input) (holds_of plays texts exact law)

pub decisions_kept : ((layer : Layer ℕ) → ScriptsArePlayed layer) → TextsAreWritten
    → ((layer : Layer ℕ) → SlotsCount layer) → LinesDecide → DecisionsAreKept
decisions_kept plays texts count law input =
    so _ (decisions_to_play input) (decisions_of plays texts count law)

pub fires_kept : ((layer : Layer Fire) → ScriptsArePlayed layer) → TextsAreWritten
    → ((layer : Layer Fire) → SlotsCount layer) → LinesFireTogether → FiresAreKept
fires_kept plays texts count law input =
    so _ (fires_to_play input) (fires_of plays texts count law)

pub entries_kept : ((layer : Layer (List Entry)) → ScriptsArePlayed layer) → TextsAreWritten
    → ((layer : Layer (List Entry)) → SlotsCount layer) → LinesPutOne → EntriesAreKept
entries_kept plays texts count law input =
    so _ (entries_to_play input) (entries_of plays texts count law)
