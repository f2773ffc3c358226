-- A replicated log on a counter: in each slot the nodes agree on what its owner commands, and put
-- it into their logs.
use Rattle.std.specs.Prelude.{ℕ, ◌+◌, ◌-◌, ◌%◌, List, [], ◌∷◌, take, ◌==◌, unwrap_or}
use Rattle.std.specs.Prelude.{slice_index_or, if◌then◌else◌}
use Rattle.sync_types.specs.declared.states.Reg.{Reg}
use Rattle.sync_types.specs.States.{State, register_at}
use Rattle.construction.specs.Plans.{Plan}
use Rattle.construction.specs.Steps.{state_of}
use Rattle.construction.specs.Runs.{IsState}
use Rattle.plan_laws.specs.PlanMeaning.{plan_meaning}
use Rattle.counter_core.specs.Meanings.{Meaning}
use Rattle.counter_core.specs.Overlays.{Layer}
use Rattle.layer_laws.specs.Numbers.{Numbers, numbers_in, numbers_of}
use Rattle.layer_laws.specs.Scenes.{Scene}
use Rattle.layer_laws.specs.CounterLayers.{LayerRun}
use Rattle.layer_laws.specs.Slots.{slot_length, agreed_in_turn}
use Rattle.consensus_layer.specs.Agreeing.{loaded}
use Rattle.replicated_log.specs.declared.entries.Entry.{Entry}
use Rattle.replicated_log.specs.EntryLength.{entry_length, owner_at, command_at}
use Rattle.replicated_log.specs.LogContent.{LogContent}

-- The register of agreement after a round in which node v hears that: if the output is that of a
-- slot's beginning, what the owner commands, as it is heard; else it takes a round of the slot.
abbrev pub agreement_after : (n f depth v output : ℕ) (heard : List State) → Reg
agreement_after n f depth v output heard =
    let p = output % entry_length f in
    if p == 0
    then loaded (unwrap_or (register_at (depth + 1) (state_of heard (owner_at n f output))).a 0)
    else agreed_in_turn n f depth v (p - 1) heard

-- The log after a round: at a slot's end there is one entry more at its newest end, of the output
-- with which the slot began and the value that was agreed on. The newest ones are kept, so many.
abbrev pub log_after : (f keep output : ℕ) (agreement : Reg) (log : List Entry) → List Entry
log_after f keep output agreement log =
    if output % entry_length f + 1 == entry_length f
    then take keep
    (record { slot = output - slot_length f; value = unwrap_or agreement.a 0 } ∷ log)
    else log

-- The layer of the log: a register of agreement, and after it one of commands, which has what the
-- node commands at its next output. A node keeps its log, the newest entry first.
abbrev pub log_layer_of : (nodes faults modulus depth values keep : ℕ) (commands : List (List ℕ))
    → Layer (List Entry)
log_layer_of nodes faults modulus depth values keep commands = record {
  nodes = nodes;
  modulus = modulus;
  depth = depth;
  extra = 2;
  values = values;
  first = [];
  begun = λ at log. log;
  next = λ v log output heard.
      let agreement = agreement_after nodes faults depth v output heard in
      let command = loaded (command_at nodes faults commands v ((output + 1) % modulus)) in
      record {
        registers = agreement ∷ command ∷ [];
        kept = log_after faults keep output agreement log;
      };
}

-- that over a counter, as a log part says
abbrev pub log_layer_over : Numbers → LogContent → Layer (List Entry)
log_layer_over numbers said =
    log_layer_of numbers.nodes numbers.faults numbers.modulus numbers.depth said.values said.keep
    said.commands

-- that over the counter of a plan
abbrev pub log_layer : Plan → LogContent → Layer (List Entry)
log_layer plan = log_layer_over (numbers_of plan)

-- a run of a counter with a log, from any states and logs
abbrev pub LogRunOver : (counter : Meaning) (is_state : (v : ℕ) → State → Type 0) → LogContent
    → (faulty : List ℕ) (first : ℕ) (run : List (Scene (List Entry))) → Type 0
LogRunOver counter is_state said =
    LayerRun counter is_state (log_layer_over (numbers_in counter) said)

-- one of a plan
abbrev pub LogRun : Plan → LogContent → (faulty : List ℕ) (first : ℕ)
    (run : List (Scene (List Entry))) → Type 0
LogRun plan = LogRunOver (plan_meaning plan) (IsState plan)

-- the log of node v, by what the nodes keep
abbrev pub log_in : List (List Entry) → (v : ℕ) → List Entry
log_in kept v = slice_index_or kept v []

abbrev pub log_of : Scene (List Entry) → (v : ℕ) → List Entry
log_of s v = log_in s.kept v
