-- Every slot of a log puts one entry, also if commands change.
use Rattle.std.proofs.Common.{ℕ, refl}
use Rattle.sync_types.specs.States.{State}
use Rattle.construction.specs.Runs.{IsState}
use Rattle.plan_laws.specs.PlanMeaning.{plan_meaning}
use Rattle.counter_core.specs.Meanings.{Meaning}
use Rattle.layer_laws.specs.Numbers.{numbers_in}
use Rattle.layer_laws.proofs.PlanCounters.{plans_settle}
use Rattle.replicated_log.specs.ChangingCommands.{changing_layer_over, commands_before}
use Rattle.replicated_log.specs.ChangingCommands.{ChangingCommandsPutOneOver}
use Rattle.replicated_log.specs.ChangingCommands.{ChangingLogsAreOneOver, ChangingCommandsPutOne}
use Rattle.replicated_log.specs.ChangingCommands.{ChangingLogsAreOne}
use Rattle.replicated_log.proofs.Logging.{IsLogging}
use Rattle.replicated_log.proofs.SlotEntries.{puts_one}
use Rattle.replicated_log.proofs.SameLogs.{same_since}

logging : (counter : Meaning) (values keep : ℕ) (command : (v t : ℕ) → ℕ) (first : ℕ)
    → IsLogging counter (changing_layer_over (numbers_in counter) values keep command) keep
    (λ noted. noted.log) (commands_before command first) first
logging counter values keep command first = record {
  same = record { nodes = refl; modulus = refl; depth = refl };
  extra = refl;
  command = λ v noted output. command v noted.round;
  begun = λ at noted. refl;
  registers = λ v output noted heard. refl;
  kept = λ v output noted heard. refl;
  meant = λ t v output slot noted is. refl;
}

module _ (counter : Meaning) (is_state : (v : ℕ) → State → Type 0) where
  pub changing_commands_put_one_over : ChangingCommandsPutOneOver counter is_state
  changing_commands_put_one_over settling multiple values keep command faulty borne first run is =
      puts_one counter is_state settling multiple
      (changing_layer_over (numbers_in counter) values keep command) keep (λ noted. noted.log)
      (commands_before command first) first (logging counter values keep command first) faulty borne
      run is

  pub changing_logs_are_one_over : ChangingLogsAreOneOver counter is_state
  changing_logs_are_one_over settling multiple values keep command faulty borne first run is =
      same_since counter is_state settling multiple
      (changing_layer_over (numbers_in counter) values keep command) keep (λ noted. noted.log)
      (commands_before command first) first (logging counter values keep command first) faulty borne
      run is

pub changing_commands_put_one : ChangingCommandsPutOne
changing_commands_put_one plan accepted multiple values keep command faulty borne =
    changing_commands_put_one_over (plan_meaning plan) (IsState plan) (plans_settle plan accepted)
    multiple values keep command faulty borne

pub changing_logs_are_one : ChangingLogsAreOne
changing_logs_are_one plan accepted multiple values keep command faulty borne =
    changing_logs_are_one_over (plan_meaning plan) (IsState plan) (plans_settle plan accepted)
    multiple values keep command faulty borne
