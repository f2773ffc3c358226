-- A replicated log with commands that change: each node may command something else in each round.
use Rattle.std.specs.Prelude.{ℕ, ◌+◌, ◌-◌, ◌<◌, ◌≤◌, List, [], ◌∷◌, length, slice_index_or}
use Rattle.sync_types.specs.States.{State}
use Rattle.construction.specs.Plans.{Plan, plan_faults, plan_bound}
use Rattle.construction.specs.Runs.{IsToleratedBy}
use Rattle.plan_numbers.specs.Premises.{IsAccepted}
use Rattle.counter_core.specs.Meanings.{Meaning}
use Rattle.counter_core.specs.Overlays.{Layer}
use Rattle.layer_laws.specs.Counters.{Bears, IsSettling}
use Rattle.layer_laws.specs.Numbers.{Numbers, numbers_in, numbers_of}
use Rattle.layer_laws.specs.Scenes.{Scene}
use Rattle.layer_laws.specs.CounterLayers as counters
use Rattle.layer_laws.specs.CounterSlots as slots
use Rattle.layer_laws.specs.LayerRuns.{LayerRun, scene}
use Rattle.layer_laws.specs.Slots.{AllAre}
use Rattle.consensus_layer.specs.Agreeing.{loaded}
use Rattle.replicated_log.specs.declared.entries.Entry.{Entry}
use Rattle.replicated_log.specs.EntryLength.{entry_length}
use Rattle.replicated_log.specs.Logs.{agreement_after, log_after}
use Rattle.replicated_log.specs.PutEntries.{HasEntriesOver, PutsOneOver, SameSinceOver, HasEntries}
use Rattle.replicated_log.specs.PutEntries.{PutsOne, SameSince}

-- what a node keeps: the number of the round, and its log
pub record Noted : Type 0 where
  pub round : ℕ
  pub log : List Entry

-- before anything is kept
abbrev pub nothing : Noted
nothing = record { round = 0; log = [] }

-- The layer of a log of so many entries, in which node v commands this in round t. When a round
-- begins, each node notes its number.
abbrev pub changing_layer_over : Numbers → (values keep : ℕ) → (command : (v t : ℕ) → ℕ)
    → Layer Noted
changing_layer_over numbers values keep command = record {
  nodes = numbers.nodes;
  modulus = numbers.modulus;
  depth = numbers.depth;
  extra = 2;
  values = values;
  first = nothing;
  begun = λ at noted. record { round = at; log = noted.log };
  next = λ v noted output heard.
      let agreement = agreement_after numbers.nodes numbers.faults numbers.depth v output heard in
      record {
        registers = agreement ∷ loaded (command v noted.round) ∷ [];
        kept = record {
          round = noted.round;
          log = log_after numbers.faults keep output agreement noted.log;
        };
      };
}

-- that over the counter of a plan
abbrev pub changing_layer : Plan → (values keep : ℕ) → (command : (v t : ℕ) → ℕ) → Layer Noted
changing_layer plan = changing_layer_over (numbers_of plan)

-- the log of node v
abbrev pub log_noted : Scene Noted → (v : ℕ) → List Entry
log_noted s v = (slice_index_or s.kept v nothing).log

-- What is commanded for a slot that begins in configuration t is what its owner commands in the
-- round before, if rounds are numbered from `first` on.
abbrev pub commands_before : (command : (v t : ℕ) → ℕ) → (first : ℕ) → (t v slot : ℕ) → ℕ
commands_before command first t v slot = command v (first + (t - 1))

-- In every run of a settling counter, whatever is commanded in each round, each slot that begins at
-- the bound or later and ends within the run puts one entry.
abbrev pub ChangingCommandsPutOneOver : (counter : Meaning) (is_state : (v : ℕ) → State → Type 0)
    → Type 0
ChangingCommandsPutOneOver counter is_state = IsSettling counter is_state → HasEntriesOver counter
    → (values keep : ℕ) (command : (v t : ℕ) → ℕ) (faulty : List ℕ) → Bears counter faulty
    → (first : ℕ) (run : List (Scene Noted))
    → counters.LayerRun counter is_state
    (changing_layer_over (numbers_in counter) values keep command) faulty first run
    → (t : ℕ) → counter.bound ≤ t → t + entry_length counter.faults < length run
    → slots.AllAre counter faulty (scene run t).states (entry_length counter.faults) 0
    → PutsOneOver counter keep log_noted (commands_before command first) faulty run t

-- From any slot on that begins at the bound or later, the logs grow as one.
abbrev pub ChangingLogsAreOneOver : (counter : Meaning) (is_state : (v : ℕ) → State → Type 0)
    → Type 0
ChangingLogsAreOneOver counter is_state = IsSettling counter is_state → HasEntriesOver counter
    → (values keep : ℕ) (command : (v t : ℕ) → ℕ) (faulty : List ℕ) → Bears counter faulty
    → (first : ℕ) (run : List (Scene Noted))
    → counters.LayerRun counter is_state
    (changing_layer_over (numbers_in counter) values keep command) faulty first run
    → (t : ℕ) → counter.bound ≤ t → t < length run
    → slots.AllAre counter faulty (scene run t).states (entry_length counter.faults) 0
    → (x : ℕ) → t + x < length run
    → SameSinceOver counter keep log_noted (commands_before command first) faulty run t x

-- So it is in every run of an accepted plan.
abbrev pub ChangingCommandsPutOne : Type 0
ChangingCommandsPutOne = (plan : Plan) → IsAccepted plan → HasEntries plan
    → (values keep : ℕ) (command : (v t : ℕ) → ℕ) (faulty : List ℕ) → IsToleratedBy plan faulty
    → (first : ℕ) (run : List (Scene Noted))
    → LayerRun plan (changing_layer plan values keep command) faulty first run
    → (t : ℕ) → plan_bound plan ≤ t → t + entry_length (plan_faults plan) < length run
    → AllAre plan faulty (scene run t).states (entry_length (plan_faults plan)) 0
    → PutsOne plan keep log_noted (commands_before command first) faulty run t

abbrev pub ChangingLogsAreOne : Type 0
ChangingLogsAreOne = (plan : Plan) → IsAccepted plan → HasEntries plan
    → (values keep : ℕ) (command : (v t : ℕ) → ℕ) (faulty : List ℕ) → IsToleratedBy plan faulty
    → (first : ℕ) (run : List (Scene Noted))
    → LayerRun plan (changing_layer plan values keep command) faulty first run
    → (t : ℕ) → plan_bound plan ≤ t → t < length run
    → AllAre plan faulty (scene run t).states (entry_length (plan_faults plan)) 0
    → (x : ℕ) → t + x < length run
    → SameSince plan keep log_noted (commands_before command first) faulty run t x
