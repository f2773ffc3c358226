-- What is counted, while runs are played.
use Rattle.std.specs.Prelude.{◌≡◌, ℕ, ◌+◌, ◌-◌, ◌<◌, ◌≤◌, ◌^◌, List, ◌++◌, [], length, map, min}
use Rattle.std.specs.Prelude.{slice_set, slice_index_or, Option, Some, None, IfSome}
use Rattle.std.specs.List.{flat_map, range_with_len}
use Rattle.std.specs.Option.{option_or}
use Rattle.adversary_script.specs.Scripts.{Script}
use Rattle.adversary_script.specs.Eras.{first_of_era, end_of_era}
use Rattle.sweep.specs.Sweeps.{Locks, found_at, lock_with}
use Rattle.sweep.specs.SweepTexts.{line_of}
use Rattle.sweep.specs.declared.tallies.Found.{Found}

-- The runs of an era: those whose first locked configuration is one of it, by its place after the
-- first one, and those that have none.
pub record EraRuns : Type 0 where
  pub first : ℕ
  pub locked : List Found
  pub unlocked : Found

-- no run
abbrev pub nothing : Found
nothing = record { runs = 0; seed = None }

-- with one more run, of this number; a number of runs ends at 2^64 - 1
abbrev pub with_run : Found → (seed : ℕ) → Found
with_run found seed = record {
  runs = min (found.runs + 1) (2 ^ 64 - 1);
  seed = option_or found.seed (Some seed);
}

-- with one more run that has this first locked configuration
abbrev pub with_lock : EraRuns → Option ℕ → (seed : ℕ) → EraRuns
with_lock runs None seed = record runs { unlocked = with_run runs.unlocked seed }
with_lock runs (Some t) seed = record runs {
  locked = slice_set runs.locked (t - runs.first)
      (with_run (slice_index_or runs.locked (t - runs.first) nothing) seed);
}

-- a first locked configuration is one of the era
abbrev pub IsWithin : EraRuns → Option ℕ → Type 0
IsWithin runs locked =
    IfSome locked (λ t. (runs.first ≤ t) × (t < runs.first + length runs.locked))

-- These are the runs of an era of so many configurations, for keys of these numbers, whose first
-- locked configurations are in a table.
pub record AreRuns (lock : ℕ → Option ℕ) (first size : ℕ) (seeds : List ℕ) (runs : EraRuns)
    : Type 0 where
  pub from : runs.first ≡ first
  pub locked : runs.locked
      ≡ map (λ k. found_at lock seeds (Some (first + k))) (range_with_len 0 size)
  pub unlocked : runs.unlocked ≡ found_at lock seeds None

-- no runs of any era
abbrev pub no_runs : EraRuns
no_runs = record { first = 0; locked = []; unlocked = nothing }

-- configuration t is of era j
abbrev pub IsOfEra : Script → (j t : ℕ) → Type 0
IsOfEra script j t = (first_of_era script j ≤ t) × (t < end_of_era script j)

-- there is room for the runs of each era of a script
pub record HasRoom (script : Script) (tally : List EraRuns) : Type 0 where
  pub size : length tally ≡ length script.eras + 1
  pub first : (j : ℕ) → j ≤ length script.eras
      → (slice_index_or tally j no_runs).first ≡ first_of_era script j
  pub end : (j : ℕ) → j ≤ length script.eras
      → (slice_index_or tally j no_runs).first + length (slice_index_or tally j no_runs).locked
      ≡ end_of_era script j

-- the runs of era j of a script
abbrev pub AreOfEra : Locks → Script → (seeds : List ℕ) → (j : ℕ) → EraRuns → Type 0
AreOfEra locks script seeds j runs =
    AreRuns (lock_with locks script j) (first_of_era script j)
    (end_of_era script j - first_of_era script j) seeds runs

-- the runs of each era of a script
pub record AreTallied (locks : Locks) (script : Script) (seeds : List ℕ) (tally : List EraRuns)
    : Type 0 where
  pub size : length tally ≡ length script.eras + 1
  pub each : (j : ℕ) → j ≤ length script.eras
      → AreOfEra locks script seeds j (slice_index_or tally j no_runs)

-- the line of place k
abbrev pub place_line : EraRuns → (k : ℕ) → List ℕ
place_line runs k =
    line_of runs.first (Some (runs.first + k)) (slice_index_or runs.locked k nothing)

-- the lines of the runs of an era that lock
abbrev pub locked_text : EraRuns → List ℕ
locked_text runs = flat_map (place_line runs) (range_with_len 0 (length runs.locked))

-- the lines of an era
abbrev pub runs_text : EraRuns → List ℕ
runs_text runs = locked_text runs ++ line_of runs.first None runs.unlocked
