-- Lines that are written of slots: each when its slot ends, of those that begin in a configuration
-- that is shown, later than the bound, and end in the same era.
use Rattle.std.specs.Prelude.{ℕ, ◌+◌, ◌-◌, ◌%◌, List, [], Bool, ◌&&◌, nat_le, nat_lt, ◌==◌}
use Rattle.std.specs.Prelude.{if◌then◌else◌}
use Rattle.std.specs.List.{flat_map, range_with_len}
use Rattle.sync_types.specs.States.{State}
use Rattle.construction.specs.Steps.{state_of}
use Rattle.counter_core.specs.Meanings.{Meaning}
use Rattle.adversary_script.specs.Scripts.{Script}
use Rattle.adversary_script.specs.Eras.{era_of, first_of_era, faulty_at}
use Rattle.layer_laws.specs.Lowest.{lowest_correct}

-- what node v shows
abbrev pub output_of : Meaning → List State → (v : ℕ) → ℕ
output_of counter config v = counter.shows v (state_of config v)

-- what the correct node of the lowest id shows in configuration c
abbrev pub lead_output : Meaning → Script → (c : ℕ) → List State → ℕ
lead_output counter script c config =
    output_of counter config (lowest_correct counter.nodes (faulty_at script c))

-- Whether a slot of q rounds that begins in configuration t counts: it begins later than the bound
-- after the beginning of its era, and ends in that era and within the rounds.
abbrev pub counts_at : (bound : ℕ) → Script → (q t : ℕ) → Bool
counts_at bound script q t =
    nat_lt (first_of_era script (era_of script t) + bound) t
    && era_of script (t + q) == era_of script t && nat_le (t + q) script.rounds

-- whether such a slot that begins in a configuration that is shown ends in configuration c
abbrev pub may_end_at : (bound : ℕ) → Script → (q c : ℕ) → Bool
may_end_at bound script q c =
    nat_le (script.first + q) c && nat_le c (script.last + q) && counts_at bound script q (c - q)

module _ (counter : Meaning) (script : Script) (q : ℕ) where
  -- whether such a slot begins in configuration t
  abbrev pub begins_at : (t : ℕ) → List State → Bool
  begins_at t config =
      counts_at counter.bound script q t && lead_output counter script t config % q == 0

  -- a line of each such slot that begins in a configuration that is shown
  abbrev pub slot_lines : (config_at : ℕ → List State) → (line : ℕ → List ℕ) → List ℕ
  slot_lines config_at line =
      flat_map (λ t. if begins_at t (config_at t) then line t else [])
      (range_with_len script.first (script.last + 1 - script.first))

  -- whether one of these ends in configuration c, by the output there
  abbrev pub ends_at : (c : ℕ) → List State → Bool
  ends_at c config =
      may_end_at counter.bound script q c && lead_output counter script c config % q == 0
