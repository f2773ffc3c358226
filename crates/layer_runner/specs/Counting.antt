-- What is played of a script on a counter counts: in each era, from the bound on.
use Rattle.std.specs.Prelude.{◌≡◌, ℕ, ◌+◌, ◌*◌, ◌%◌, ◌<◌, ◌≤◌, List, length, false, All}
use Rattle.sync_types.specs.FaultSets.{is_in}
use Rattle.counter_core.specs.Meanings.{Meaning}
use Rattle.counter_core.specs.Overlays.{Layer}
use Rattle.adversary_script.specs.Scripts.{Script, IsScript, faulty_sets}
use Rattle.adversary_script.specs.Eras.{first_of_era, end_of_era, faulty_of_era}
use Rattle.layer_laws.specs.Counters.{Bears}
use Rattle.layer_runner.specs.PlayedTexts.{configuration_in}
use Rattle.layer_runner.specs.SlotTexts.{output_of}

module _ {Kept : Type 0} (counter : Meaning) (script : Script) (layer : Layer Kept)
    (began : List Kept) where
  -- From the bound on, counted from the first configuration of era j, to the end of the era all
  -- nodes that are correct in it show one number, which grows by one modulo C.
  pub record EraCounts (j : ℕ) : Type 0 where
    pub output : ℕ → ℕ
    pub shows : (t : ℕ) → first_of_era script j + counter.bound ≤ t → t < end_of_era script j
        → (v : ℕ) → v < counter.nodes → is_in (faulty_of_era script j) v ≡ false
        → output_of counter (configuration_in counter script layer began t) v ≡ output t
    pub grows : (t : ℕ) → first_of_era script j + counter.bound ≤ t → t + 1 < end_of_era script j
        → output (t + 1) ≡ (output t + 1) % counter.modulus

  -- The counter has few enough faulty nodes in each era, counts by 2 at least, and each era counts.
  pub record ErasCount : Type 0 where
    pub quorum : 3 * counter.faults < counter.nodes
    pub least : 2 ≤ counter.modulus
    pub whole : IsScript script
    pub borne : All (Bears counter) (faulty_sets script)
    pub eras : (j : ℕ) → j ≤ length script.eras → EraCounts j
