-- What reading ids into a set, and making sets, gives. Want of memory says nothing.
use Rattle.std.specs.Prelude.{◌≡◌, ℕ, ◌-◌, List, [], length, slice_index, Bool, true, false, nat_le}
use Rattle.std.specs.Prelude.{nat_lt, ◌==◌, ◌&&◌, ◌||◌, Option, Some, None, Result, Ok, Err}
use Rattle.std.specs.Prelude.{if◌then◌else◌}
use Rattle.sync_types.specs.FaultSets.{FaultIds}
use Rattle.sync_types.specs.declared.answers.NoMemory.{NoMemory}
use Rattle.adversary_script.specs.WordTests.{are_below, is_rising}

-- the set that is given is that of these ids
abbrev pub GivesSet : (nodes : ℕ) → List ℕ → Result FaultIds NoMemory → Type 0
GivesSet nodes ids (Err e) = Unit {0}
GivesSet nodes ids (Ok set) = set ≡ record { nodes = nodes; ids = ids }

-- whether ids are those of a faulty set, of at most so many among so many nodes
abbrev pub is_borne_by : (nodes faults : ℕ) → List ℕ → Bool
is_borne_by nodes faults ids = are_below nodes ids && is_rising ids && nat_le (length ids) faults

-- the ids of numbers, if they are those of such a set
abbrev pub borne_ids : (nodes faults : ℕ) → Option (List ℕ) → Option (List ℕ)
borne_ids nodes faults None = None
borne_ids nodes faults (Some ids) = if is_borne_by nodes faults ids then Some ids else None

-- a set with no faulty node
abbrev pub no_ids : (nodes : ℕ) → FaultIds
no_ids nodes = record { nodes = nodes; ids = [] }

-- whether an id is above all of these
abbrev pub is_above : List ℕ → (id : ℕ) → Bool
is_above ids id = length ids == 0 || nat_lt (slice_index ids (length ids - 1)) id

-- whether it may follow them in such a set
abbrev pub may_follow : (nodes faults : ℕ) → List ℕ → (id : ℕ) → Bool
may_follow nodes faults ids id =
    nat_lt id nodes && nat_lt (length ids) faults && is_above ids id

-- the ids that were read are those of such a set, or there are none
abbrev pub ReadsBorne : (nodes faults : ℕ) → Option (List ℕ) → (ids : List ℕ) → Bool → Type 0
ReadsBorne nodes faults said ids true = borne_ids nodes faults said ≡ Some ids
ReadsBorne nodes faults said ids false = borne_ids nodes faults said ≡ None
