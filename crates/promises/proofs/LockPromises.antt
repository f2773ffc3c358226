-- What the lines of first locked configurations promise, by what the parts are read as.
use Rattle.std.proofs.Common.{ℕ, List, [], replicate}
use Rattle.construction.specs.Plans.{plan_nodes}
use Rattle.slot_table.specs.declared.lines.SlotLine.{SlotLine}
use Rattle.consensus_layer.specs.AgreeContent.{AgreeContent}
use Rattle.firing.specs.declared.requests.Request.{Request}
use Rattle.firing.specs.Firings.{fire_layer, unfired}
use Rattle.firing.specs.declared.fires.Fire.{Fire}
use Rattle.replicated_log.specs.LogContent.{LogContent}
use Rattle.replicated_log.specs.Logs.{log_layer}
use Rattle.replicated_log.specs.declared.entries.Entry.{Entry}
use Rattle.counter_core.specs.Overlays.{Layer}
use Rattle.promises.specs.Locks.{PlainErasLock, LayeredErasLock}
use Rattle.outcomes.proofs.LayeredRead.{so, agreed_layer, slots_read, decisions_to_play}
use Rattle.outcomes.proofs.LayeredRead.{fires_to_play, entries_to_play}
use Rattle.promises.specs.LockPromises.{LocksAreKept}
use Rattle.promises.proofs.LayerPromises.{played}

pub locks_kept : PlainErasLock → ((layer : Layer ℕ) → LayeredErasLock layer)
    → ((layer : Layer Fire) → LayeredErasLock layer)
    → ((layer : Layer (List Entry)) → LayeredErasLock layer) → LocksAreKept
locks_kept plain agreed fired logged = record {
  slots = λ input. so {Content = List SlotLine} _ (slots_read input)
      (λ l read. plain l.plan l.script
      (record { accepted = read.accepted; right = read.right; whole = read.whole }));
  consensus = λ input. so {Content = AgreeContent} _ (decisions_to_play input)
      (λ l read. agreed (agreed_layer l.plan l.said) l.plan l.script (played l read)
      (replicate (plan_nodes l.plan) 0));
  fire = λ input. so {Content = List Request} _ (fires_to_play input)
      (λ l read. fired (fire_layer l.plan l.said) l.plan l.script (played l read)
      (replicate (plan_nodes l.plan) unfired));
  log = λ input. so {Content = LogContent} _ (entries_to_play input)
      (λ l read. logged (log_layer l.plan l.said) l.plan l.script (played l read)
      (replicate (plan_nodes l.plan) []));
}
