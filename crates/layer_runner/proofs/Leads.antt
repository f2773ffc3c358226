-- In each era the node of the lowest id that is correct is a correct one.
use Rattle.std.proofs.Common.{◌≡◌, ℕ, ◌<◌, ◌≤◌, false, List, length}
use Rattle.sync_types.specs.FaultSets.{is_in}
use Rattle.counter_core.specs.Meanings.{Meaning}
use Rattle.counter_core.specs.Overlays.{Layer}
use Rattle.adversary_script.specs.Scripts.{Script}
use Rattle.adversary_script.specs.Eras.{faulty_of_era}
use Rattle.machine_runner.proofs.Eras.{of_each_era}
use Rattle.layer_laws.specs.Counters.{Bears}
use Rattle.layer_laws.specs.Lowest.{lowest_correct}
use Rattle.layer_laws.proofs.LowestCorrect.{lowest_leads}
use Rattle.layer_runner.specs.Counting.{ErasCount}

pub leads : {Kept : Type 0} (counter : Meaning) (script : Script) (layer : Layer Kept)
    (began : List Kept) → ErasCount counter script layer began → (j : ℕ)
    → j ≤ length script.eras
    → (lowest_correct counter.nodes (faulty_of_era script j) < counter.nodes)
    × (is_in (faulty_of_era script j) (lowest_correct counter.nodes (faulty_of_era script j))
    ≡ false)
leads counter script layer began is j among =
    lowest_leads counter.nodes counter.faults (faulty_of_era script j) is.quorum
    (of_each_era (Bears counter) script j among is.borne).few
