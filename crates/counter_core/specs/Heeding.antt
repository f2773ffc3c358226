-- Of which liars a step needs to know what they say.
use Rattle.std.specs.Prelude.{◌≡◌, ℕ, ◌<◌, ◌≤◌, List, length, slice_index, false}
use Rattle.sync_types.specs.FaultSets.{is_in}
use Rattle.sync_types.specs.States.{State}
use Rattle.construction.specs.Steps.{state_of}

-- Node v hears of each correct node its state in the configuration, and of itself its own. What it
-- hears of the others, which may lie, is free.
pub record HearsTruth (faulty : List ℕ) (v : ℕ) (config heard : List State) : Type 0 where
  pub size : length heard ≡ length config
  pub honest : (u : ℕ) → u < length config → is_in faulty u ≡ false
      → state_of heard u ≡ state_of config u
  pub own : state_of heard v ≡ state_of config v

-- What node v finds from what it hears hangs on the lies in a stretch alone, from one place of the
-- faulty set to before another: whatever the other liars say, it is the same.
abbrev pub DependsOnlyOn : {Found : Type 0} → (find : List State → Found) (faulty : List ℕ) (v : ℕ)
    → (config : List State) (from to : ℕ) → Type 0
DependsOnlyOn find faulty v config from to = (heard told : List State)
    → HearsTruth faulty v config heard → HearsTruth faulty v config told
    → ((j : ℕ) → from ≤ j → j < to
    → state_of heard (slice_index faulty j) ≡ state_of told (slice_index faulty j))
    → find heard ≡ find told
