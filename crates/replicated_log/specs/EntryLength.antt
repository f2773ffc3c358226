-- How long an entry of a log takes, and whose it is.
use Rattle.std.specs.Prelude.{ℕ, ◌+◌, ◌*◌, ◌/◌, ◌%◌, List, [], length, slice_index, slice_index_or}
use Rattle.layer_laws.specs.Slots.{slot_length}

-- the rounds of an entry: one to hear its owner, and a slot
abbrev pub entry_length : (faults : ℕ) → ℕ
entry_length faults = slot_length faults + 1

-- the owner of the entry to which an output belongs: the nodes in turn
abbrev pub owner_at : (n f output : ℕ) → ℕ
owner_at n f output = output / entry_length f % n

-- what node v commands at an output: its commands in turn
abbrev pub command_at : (n f : ℕ) (commands : List (List ℕ)) (v output : ℕ) → ℕ
command_at n f commands v output =
    let own = slice_index_or commands v [] in
    slice_index own (output / (n * entry_length f) % length own)
