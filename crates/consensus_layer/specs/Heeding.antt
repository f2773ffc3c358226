-- How many correct nodes have a value, by what one node hears.
use Rattle.std.specs.Prelude.{ℕ, List, length, Bool, not, ◌&&◌, nat_eq, Option}
use Rattle.std.specs.Option.{option_eq}
use Rattle.counting.specs.Places.{places}
use Rattle.sync_types.specs.FaultSets.{is_in}
use Rattle.counter_core.specs.HeardRegisters.{RegisterHeard, heard_at}

-- node u is correct, and its register has the value
abbrev pub has_truly : (faulty : List ℕ) → RegisterHeard → (value : Option ℕ) → (u : ℕ) → Bool
has_truly faulty h value u = not (is_in faulty u) && option_eq nat_eq value (heard_at h u).a

-- so many nodes are and do
abbrev pub true_count : (faulty : List ℕ) → RegisterHeard → (value : Option ℕ) → ℕ
true_count faulty h value = places (has_truly faulty h value) (length h.states)
