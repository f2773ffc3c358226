-- The faulty nodes of a set that a counter tolerates are few.
use Rattle.std.proofs.Common.{ℕ, ◌≤◌, List, arith}
use Rattle.counting.specs.Places.{places}
use Rattle.sync_types.specs.States.{State}
use Rattle.construction.specs.Runs.{is_in}
use Rattle.counter_core.specs.Meanings.{Meaning}
use Rattle.counter_core.proofs.ListsAndPlaces.{places_of_ids}
use Rattle.layer_laws.specs.Counters.{Bears}

-- the faulty places of a tolerated set are as few as its ids
pub few_of : (counter : Meaning) (faulty : List ℕ) → Bears counter faulty
    → places (is_in faulty) counter.nodes ≤ counter.faults
few_of counter faulty borne =
    let few = borne.few in omega (arith, places_of_ids faulty counter.nodes, few)
