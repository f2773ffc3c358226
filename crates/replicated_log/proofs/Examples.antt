-- Worked values of the log, by computation: four nodes, one fault. Entries have seven rounds, and
-- the nodes own them in turn.
use Rattle.std.proofs.Common.{◌≡◌, ℕ, zero, suc, List, [], ◌∷◌, map, None, false, refl}
use Rattle.std.specs.List.{range_with_len}
use Rattle.sync_types.specs.declared.states.Reg.{Reg}
use Rattle.construction.specs.Plans.{Plan}
use Rattle.construction.specs.PhaseKing.{locked_at}
use Rattle.layer_laws.specs.Scenes.{Scene}
use Rattle.layer_laws.specs.Played.{Telling, scene_after}
use Rattle.consensus_layer.specs.Agreeing.{loaded}
use Rattle.replicated_log.specs.declared.entries.Entry.{Entry}
use Rattle.replicated_log.specs.EntryLength.{owner_at, command_at}
use Rattle.replicated_log.specs.LogContent.{LogContent}
use Rattle.replicated_log.specs.Logs.{log_layer, log_of}

abbrev plan : Plan
plan =
    record {
      version = 1;
      base = 2304;
      levels = record { blocks = 4; spares = 0; faults = 1; modulus = 56 } ∷ [];
    }

abbrev infinite : Reg
infinite = record { a = None; d = false }

-- ---- owners and commands

abbrev commands : List (List ℕ)
commands = (3 ∷ []) ∷ (5 ∷ []) ∷ (9 ∷ 10 ∷ []) ∷ (1 ∷ []) ∷ []

owner_in_turn : owner_at 4 1 14 ≡ 2
owner_in_turn = refl

first_command : command_at 4 1 commands 2 14 ≡ 9
first_command = refl

next_command : command_at 4 1 commands 2 42 ≡ 10
next_command = refl

abbrev said : LogContent
said = record { values = 16; keep = 8; commands = commands }

-- ---- the log: from output 13 on, with node 3 faulty, whose lies differ by receiver

abbrev lie : Telling
lie t u zero config = record { x = 7; registers = locked_at 3 ∷ loaded 0 ∷ loaded 4 ∷ [] }
lie t u (suc v) config = record { x = 1; registers = infinite ∷ infinite ∷ loaded 8 ∷ [] }

abbrev start : Scene (List Entry)
start =
    record {
      states = map (λ v. record { x = 13; registers = locked_at 13 ∷ infinite ∷ infinite ∷ [] })
          (range_with_len 0 4);
      kept = [] ∷ [] ∷ [] ∷ [] ∷ [];
    }

abbrev log_scene : ℕ → Scene (List Entry)
log_scene x = scene_after plan (log_layer plan said) (3 ∷ []) lie 0 start x

abbrev older : Entry
older = record { slot = 7; value = 0 }

-- the round of output 13 ends the slot before, whatever that agreed on
ends_the_slot_before : map (log_of (log_scene 1)) (0 ∷ 1 ∷ 2 ∷ [])
    ≡ (older ∷ []) ∷ (older ∷ []) ∷ (older ∷ []) ∷ []
ends_the_slot_before = refl

quiet_in_the_slot : map (log_of (log_scene 7)) (0 ∷ 1 ∷ 2 ∷ [])
    ≡ (older ∷ []) ∷ (older ∷ []) ∷ (older ∷ []) ∷ []
quiet_in_the_slot = refl

abbrev newer : Entry
newer = record { slot = 14; value = 9 }

-- the slot of output 14 is that of node 2, whose first command is 9
one_entry_more : map (log_of (log_scene 8)) (0 ∷ 1 ∷ 2 ∷ [])
    ≡ (newer ∷ older ∷ []) ∷ (newer ∷ older ∷ []) ∷ (newer ∷ older ∷ []) ∷ []
one_entry_more = refl
