-- What the text of a sweep says: of each era, every run is counted once, in the line of its first
-- locked configuration.
use Rattle.std.specs.Prelude.{◌≡◌, ◌⊎◌, ℕ, ◌+◌, ◌≤◌, List, ◌++◌, length, Bool, All, sum_by}
use Rattle.std.specs.Prelude.{count_by, find, map, Option, Some, unwrap_or, nat_eq, Ok}
use Rattle.std.specs.List.{flat_map, range_with_len}
use Rattle.std.specs.List.Sorted.{IsStrictlyIncreasing}
use Rattle.std.specs.Option.{option_eq}
use Rattle.construction.specs.Plans.{Plan, plan_bound}
use Rattle.machines.specs.Machines.{Machine}
use Rattle.adversary_script.specs.Scripts.{Script, IsScript}
use Rattle.adversary_script.specs.Eras.{first_of_era, end_of_era}
use Rattle.machine_runner.specs.Locks as machine_locks
use Rattle.machine_runner.specs.Played as machine_runs
use Rattle.round_runner.specs.Locks.{IsFirstLocked}
use Rattle.round_runner.specs.Played.{played_at}
use Rattle.sweep.specs.Keys.{keyed}
use Rattle.outcomes.specs.Inputs.{Scripted, scripted_of}
use Rattle.halving_plan.specs.Laws.{machine_in}
use Rattle.halving_runs.specs.RunInputs as halving
use Rattle.sweep.specs.Sweeps.{on_plan, on_machine}
use Rattle.sweep.specs.SweepTexts.{bound_line, found_line, sweep_text}
use Rattle.sweep.specs.Inputs.{sweep_of}
use Rattle.sweep.specs.NumberRanges.{NumberRange}

-- what a line of an era says: so many runs first lock so, and this is the first of their numbers
pub record EraLine : Type 0 where
  pub locked : Option ℕ
  pub runs : ℕ
  pub seed : ℕ

abbrev pub line_text : (first : ℕ) → EraLine → List ℕ
line_text first line = found_line first line.locked line.runs line.seed

-- a line stands at its configuration, and that of none at the end of the era
abbrev pub place_of : (end : ℕ) → EraLine → ℕ
place_of end line = unwrap_or line.locked end

-- whether the run with the key of a number first locks as a line says, by a table of these
abbrev pub is_of_line : (lock : ℕ → Option ℕ) → EraLine → (seed : ℕ) → Bool
is_of_line lock line seed = option_eq nat_eq (lock seed) line.locked

-- what it is to be the first locked configuration of era j of a script's run
abbrev pub Firsts : Type 1
Firsts = Script → (j : ℕ) → Option ℕ → Type 0

-- Lines of era j, over runs with the keys of these numbers: each has the runs with its first locked
-- configuration, all of them together have every run once, and they rise.
pub record CountsRuns (IsFirst : Firsts) (script : Script) (seeds : List ℕ) (j : ℕ)
    (lines : List EraLine) : Type 0 where
  pub lock : ℕ → Option ℕ
  pub firsts : (seed : ℕ) → IsFirst (keyed script seed) j (lock seed)
  pub runs : All (λ line. line.runs ≡ count_by (is_of_line lock line) seeds) lines
  pub least : All (λ line. find (is_of_line lock line) seeds ≡ Some line.seed) lines
  pub total : sum_by (λ line. line.runs) lines ≡ length seeds
  pub rising : IsStrictlyIncreasing (map (place_of (end_of_era script j)) lines)

-- A text has the line of a bound, and of each era of a script such lines.
pub record SaysRuns (bound : ℕ) (IsFirst : Firsts) (script : Script) (seeds : List ℕ)
    (text : List ℕ) : Type 0 where
  pub lines : (j : ℕ) → List EraLine
  pub says : text ≡ bound_line bound
      ++ flat_map (λ j. flat_map (line_text (first_of_era script j)) (lines j))
      (range_with_len 0 (length script.eras + 1))
  pub each : (j : ℕ) → j ≤ length script.eras → CountsRuns IsFirst script seeds j (lines j)

-- the first locked configuration of all that is played on a plan, and on any machine
abbrev pub first_on_plan : Plan → Firsts
first_on_plan plan script j found =
    IsFirstLocked plan script (played_at plan script) j script.rounds found

abbrev pub first_on_machine : Machine → Firsts
first_on_machine machine script j found =
    machine_locks.IsFirstLocked machine script (machine_runs.played_at machine script) j
    script.rounds found

-- A text says so of the plan and the script that an input is, over numbers from the first on, or of
-- the halving plan and the script.
pub record SaysOfPlan (numbers : NumberRange) (input text : List ℕ) : Type 0 where
  pub read : Scripted
  pub is : scripted_of input ≡ Ok read
  pub says : SaysRuns (plan_bound read.plan) (first_on_plan read.plan) read.script
      (range_with_len numbers.first numbers.count) text

pub record SaysOfHalving (numbers : NumberRange) (input text : List ℕ) : Type 0 where
  pub read : halving.Scripted
  pub is : halving.scripted_of input ≡ Ok read
  pub says : SaysRuns (machine_in read.plan).bound (first_on_machine (machine_in read.plan))
      read.script (range_with_len numbers.first numbers.count) text

-- The text of a sweep says so, of any script on a plan and on any machine, and of an input.
pub record SweepsCountRuns : Type 0 where
  pub plans : (plan : Plan) (script : Script) (seeds : List ℕ) → IsScript script
      → SaysRuns (plan_bound plan) (first_on_plan plan) script seeds
      (sweep_text (on_plan plan script) seeds)
  pub machines : (machine : Machine) (script : Script) (seeds : List ℕ) → IsScript script
      → SaysRuns machine.bound (first_on_machine machine) script seeds
      (sweep_text (on_machine machine script) seeds)
  pub inputs : (numbers : NumberRange) (input text : List ℕ) → sweep_of numbers input ≡ Ok text
      → SaysOfPlan numbers input text ⊎ SaysOfHalving numbers input text
