-- What a slot of a run with a log puts into the logs.
use Rattle.std.specs.Prelude.{◌≡◌, ⊤, ℕ, ◌+◌, ◌*◌, ◌/◌, ◌%◌, ◌<◌, ◌≤◌, List, [], ◌∷◌, ◌++◌, length}
use Rattle.std.specs.Prelude.{take, false}
use Rattle.sync_types.specs.States.{State}
use Rattle.construction.specs.Plans.{Plan, plan_faults, plan_bound}
use Rattle.construction.specs.Steps.{state_of}
use Rattle.construction.specs.Runs.{is_in, IsToleratedBy}
use Rattle.plan_numbers.specs.Premises.{IsAccepted}
use Rattle.plan_laws.specs.PlanMeaning.{plan_meaning}
use Rattle.counter_core.specs.Meanings.{Meaning}
use Rattle.layer_laws.specs.Counters.{Bears, IsSettling}
use Rattle.layer_laws.specs.Scenes.{Scene}
use Rattle.layer_laws.specs.LayerRuns.{scene}
use Rattle.layer_laws.specs.CounterSlots as counters
use Rattle.layer_laws.specs.Slots.{slot_length, AllAre}
use Rattle.replicated_log.specs.declared.entries.Entry.{Entry}
use Rattle.replicated_log.specs.EntryLength.{entry_length, owner_at, command_at}
use Rattle.replicated_log.specs.LogContent.{LogContent}
use Rattle.replicated_log.specs.Logs.{LogRunOver, LogRun, log_of}

-- Of a run of a counter in which each node keeps a log of so many of its newest entries. In the
-- round before configuration t node v commands `command t v slot`, for a slot that begins there
-- with an output.
module _ {Kept : Type 0} (counter : Meaning) (keep : ℕ) (log : Scene Kept → (v : ℕ) → List Entry)
    (command : (t v slot : ℕ) → ℕ) (faulty : List ℕ) (run : List (Scene Kept)) where
  -- The slot that begins in configuration t puts this entry into the logs of all correct nodes, in
  -- its last round, and none before. It has the output with which the slot began. If the slot
  -- begins after the bound and its owner is correct, it has the value that the owner commands.
  pub record PutsOver (t : ℕ) (entry : Entry) : Type 0 where
    pub slot : (v : ℕ) → v < counter.nodes → is_in faulty v ≡ false
        → counter.shows v (state_of (scene run t).states v) ≡ entry.slot
    pub quiet : (x v : ℕ) → x ≤ slot_length counter.faults → v < counter.nodes
        → is_in faulty v ≡ false → log (scene run (t + x)) v ≡ log (scene run t) v
    pub puts : (v : ℕ) → v < counter.nodes → is_in faulty v ≡ false
        → log (scene run (t + entry_length counter.faults)) v
        ≡ take keep (entry ∷ log (scene run t) v)
    pub commanded : let owner = owner_at counter.nodes counter.faults entry.slot in
        counter.bound < t → is_in faulty owner ≡ false
        → entry.value ≡ command t owner entry.slot

  -- it puts one entry
  pub record PutsOneOver (t : ℕ) : Type 0 where
    pub entry : Entry
    pub is : PutsOver t entry

  -- these are the entries of the slots from configuration t on, one after the other, the newest
  -- first
  abbrev pub AreEntriesOver : (t : ℕ) → List Entry → Type 0
  AreEntriesOver t [] = ⊤
  AreEntriesOver t (entry ∷ older) =
      PutsOver (t + length older * entry_length counter.faults) entry × AreEntriesOver t older

  -- Since configuration t the correct nodes have put the same entries into their logs, those of the
  -- slots that have ended: in configuration t + x, as far as logs go, each has these ahead of what
  -- it had.
  pub record SameSinceOver (t x : ℕ) : Type 0 where
    pub put : List Entry
    pub many : length put ≡ x / entry_length counter.faults
    pub entries : AreEntriesOver t put
    pub each : (v : ℕ) → v < counter.nodes → is_in faulty v ≡ false
        → take keep (log (scene run (t + x)) v) ≡ take keep (put ++ log (scene run t) v)

-- the modulus is a multiple of an entry of each node
abbrev pub HasEntriesOver : Meaning → Type 0
HasEntriesOver counter = counter.modulus % (counter.nodes * entry_length counter.faults) ≡ 0

-- what nodes command that take their commands in turn
abbrev pub commands_in_turn_over : Meaning → LogContent → (t v slot : ℕ) → ℕ
commands_in_turn_over counter said t v slot =
    command_at counter.nodes counter.faults said.commands v slot

-- In every run with a log of a settling counter, each slot that begins at the bound or later and
-- ends within the run puts one entry.
abbrev pub EverySlotPutsOneOver : (counter : Meaning) (is_state : (v : ℕ) → State → Type 0) → Type 0
EverySlotPutsOneOver counter is_state = IsSettling counter is_state → HasEntriesOver counter
    → (said : LogContent) (faulty : List ℕ) → Bears counter faulty
    → (first : ℕ) (run : List (Scene (List Entry)))
    → LogRunOver counter is_state said faulty first run
    → (t : ℕ) → counter.bound ≤ t → t + entry_length counter.faults < length run
    → counters.AllAre counter faulty (scene run t).states (entry_length counter.faults) 0
    → PutsOneOver counter said.keep log_of (commands_in_turn_over counter said) faulty run t

-- In every run with a log of a settling counter, from any slot on that begins at the bound or
-- later.
abbrev pub LogsAreOneOver : (counter : Meaning) (is_state : (v : ℕ) → State → Type 0) → Type 0
LogsAreOneOver counter is_state = IsSettling counter is_state → HasEntriesOver counter
    → (said : LogContent) (faulty : List ℕ) → Bears counter faulty
    → (first : ℕ) (run : List (Scene (List Entry)))
    → LogRunOver counter is_state said faulty first run
    → (t : ℕ) → counter.bound ≤ t → t < length run
    → counters.AllAre counter faulty (scene run t).states (entry_length counter.faults) 0
    → (x : ℕ) → t + x < length run
    → SameSinceOver counter said.keep log_of (commands_in_turn_over counter said) faulty run t x

-- ---- over the counter of a plan

module _ {Kept : Type 0} (plan : Plan) (keep : ℕ) (log : Scene Kept → (v : ℕ) → List Entry)
    (command : (t v slot : ℕ) → ℕ) (faulty : List ℕ) (run : List (Scene Kept)) where
  abbrev pub PutsOne : (t : ℕ) → Type 0
  PutsOne = PutsOneOver (plan_meaning plan) keep log command faulty run

  abbrev pub SameSince : (t x : ℕ) → Type 0
  SameSince = SameSinceOver (plan_meaning plan) keep log command faulty run

abbrev pub HasEntries : Plan → Type 0
HasEntries plan = HasEntriesOver (plan_meaning plan)

abbrev pub commands_in_turn : Plan → LogContent → (t v slot : ℕ) → ℕ
commands_in_turn plan = commands_in_turn_over (plan_meaning plan)

-- In every run with a log of an accepted plan, each slot that begins at the bound or later and ends
-- within the run puts one entry.
abbrev pub EverySlotPutsOne : Type 0
EverySlotPutsOne = (plan : Plan) → IsAccepted plan → HasEntries plan
    → (said : LogContent) (faulty : List ℕ) → IsToleratedBy plan faulty
    → (first : ℕ) (run : List (Scene (List Entry))) → LogRun plan said faulty first run
    → (t : ℕ) → plan_bound plan ≤ t → t + entry_length (plan_faults plan) < length run
    → AllAre plan faulty (scene run t).states (entry_length (plan_faults plan)) 0
    → PutsOne plan said.keep log_of (commands_in_turn plan said) faulty run t

-- In every run with a log of an accepted plan, from any slot on that begins at the bound or later.
abbrev pub LogsAreOne : Type 0
LogsAreOne = (plan : Plan) → IsAccepted plan → HasEntries plan
    → (said : LogContent) (faulty : List ℕ) → IsToleratedBy plan faulty
    → (first : ℕ) (run : List (Scene (List Entry))) → LogRun plan said faulty first run
    → (t : ℕ) → plan_bound plan ≤ t → t < length run
    → AllAre plan faulty (scene run t).states (entry_length (plan_faults plan)) 0
    → (x : ℕ) → t + x < length run
    → SameSince plan said.keep log_of (commands_in_turn plan said) faulty run t x
