-- Which slots count: those of which a line is written, if they begin in a configuration that is
-- shown.
use Rattle.std.specs.Prelude.{◌≡◌, ◌↔◌, ℕ, ◌+◌, ◌<◌, ◌≤◌, List, true}
use Rattle.sync_types.specs.States.{State}
use Rattle.counter_core.specs.Meanings.{Meaning}
use Rattle.counter_core.specs.Overlays.{Layer}
use Rattle.adversary_script.specs.Scripts.{Script}
use Rattle.adversary_script.specs.Eras.{era_of, first_of_era, faulty_at}
use Rattle.layer_laws.specs.CounterSlots.{AllAre}
use Rattle.layer_runner.specs.PlayedEras.{PlaysEras}
use Rattle.layer_runner.specs.Counting.{ErasCount}
use Rattle.layer_runner.specs.PlayedTexts.{configuration_in}
use Rattle.layer_runner.specs.SlotTexts.{begins_at}

-- A slot of q rounds begins in configuration t: later than the bound in its era. It ends in that
-- era and within the rounds. The output of each correct node is a multiple of q.
pub record SlotCounts (counter : Meaning) (script : Script) (config_at : ℕ → List State) (q t : ℕ)
    : Type 0 where
  pub late : first_of_era script (era_of script t) + counter.bound < t
  pub inside : era_of script (t + q) ≡ era_of script t
  pub within : t + q ≤ script.rounds
  pub rest : AllAre counter (faulty_at script t) (config_at t) q 0

-- just these count
abbrev pub SlotsAreExact : Meaning → Script → (config_at : ℕ → List State) → (q : ℕ) → Type 0
SlotsAreExact counter script config_at q =
    (t : ℕ) → (begins_at counter script q t (config_at t) ≡ true)
    ↔ SlotCounts counter script config_at q t

-- So it is of what is played, if each era is a run with the layer.
abbrev pub SlotsCountOver : {Kept : Type 0} → Layer Kept → (counter : Meaning)
    (is_state : (v : ℕ) → State → Type 0) → Type 0
SlotsCountOver {Kept} layer counter is_state = (script : Script) (began : List Kept)
    → PlaysEras counter is_state script layer began
    → (q : ℕ) → SlotsAreExact counter script (configuration_in counter script layer began) q

-- And each era counts from the bound on.
abbrev pub PlayedErasCount : {Kept : Type 0} → Layer Kept → (counter : Meaning)
    (is_state : (v : ℕ) → State → Type 0) → Type 0
PlayedErasCount {Kept} layer counter is_state = (script : Script) (began : List Kept)
    → PlaysEras counter is_state script layer began → ErasCount counter script layer began
