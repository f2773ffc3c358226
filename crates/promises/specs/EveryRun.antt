-- What holds of every run with a layer, whatever its start, its lies and what its nodes keep: not
-- of scripts alone.
use Rattle.slot_table.specs.HoldLaws.{AtMostOneHolds}
use Rattle.consensus_layer.specs.Agreements.{EveryRunDecides}
use Rattle.consensus_layer.specs.ChangingInputs.{ChangingInputsDecide}
use Rattle.firing.specs.Firings.{EveryRunFiresTogether}
use Rattle.replicated_log.specs.ChangingCommands.{ChangingCommandsPutOne, ChangingLogsAreOne}
use Rattle.replicated_log.specs.PutEntries.{EverySlotPutsOne, LogsAreOne}

-- From the bound on at most one correct node holds; each slot of consensus ends with one decision,
-- also when inputs change from round to round, of firing with all firing or none, of a log with one
-- entry in all logs, and these grow as one, also when commands change from round to round.
pub record EveryRunKeeps : Type 0 where
  pub holds : AtMostOneHolds
  pub decides : EveryRunDecides
  pub changing : ChangingInputsDecide
  pub fires : EveryRunFiresTogether
  pub puts : EverySlotPutsOne
  pub logs : LogsAreOne
  pub changing_puts : ChangingCommandsPutOne
  pub changing_logs : ChangingLogsAreOne
