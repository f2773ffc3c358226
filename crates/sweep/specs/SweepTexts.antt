-- What is written of a sweep: the counter's bound, and for each era a line for each first locked
-- configuration that occurs, rising, and at last one for the runs that have none.
use Rattle.std.specs.Prelude.{ℕ, ◌+◌, ◌-◌, List, [], ◌∷◌, ◌++◌, length, Option, Some, None, codes}
use Rattle.std.specs.Prelude.{decimal}
use Rattle.std.specs.List.{concat, flat_map, range_with_len}
use Rattle.adversary_script.specs.Scripts.{Script}
use Rattle.adversary_script.specs.Eras.{first_of_era, end_of_era}
use Rattle.sweep.specs.Sweeps.{Locks, Swept, lock_with, found_at}
use Rattle.sweep.specs.declared.tallies.Found.{Found}

-- the line of the bound, as `run` has it
abbrev pub bound_line : (bound : ℕ) → List ℕ
bound_line bound = concat (codes "bound " ∷ decimal bound ∷ codes "\n" ∷ [])

-- which configuration is the first locked one
abbrev pub locked_word : Option ℕ → List ℕ
locked_word (Some t) = decimal t
locked_word None = codes "none"

-- The line of so many runs with such a first locked configuration, in an era that begins with
-- configuration `first`, and of the least of their numbers.
abbrev pub found_line : (first : ℕ) → Option ℕ → (runs seed : ℕ) → List ℕ
found_line first locked runs seed = concat (
    codes "era " ∷ decimal first
    ∷ codes " locked " ∷ locked_word locked
    ∷ codes " runs " ∷ decimal runs
    ∷ codes " seed " ∷ decimal seed
    ∷ codes "\n" ∷ [])

-- there is none if there is no such run
abbrev pub line_if : (first : ℕ) → Option ℕ → (runs : ℕ) → (seed : Option ℕ) → List ℕ
line_if first locked runs None = []
line_if first locked runs (Some seed) = found_line first locked runs seed

abbrev pub line_of : (first : ℕ) → Option ℕ → Found → List ℕ
line_of first locked found = line_if first locked found.runs found.seed

module _ (locks : Locks) (script : Script) (seeds : List ℕ) where
  -- the line of era j and of one first locked configuration
  abbrev pub lock_line : (j : ℕ) → Option ℕ → List ℕ
  lock_line j locked =
      line_of (first_of_era script j) locked (found_at (lock_with locks script j) seeds locked)

  -- the lines of era j: one for each of its configurations, and that of none
  abbrev pub era_lines : (j : ℕ) → List ℕ
  era_lines j =
      flat_map (λ t. lock_line j (Some t))
      (range_with_len (first_of_era script j) (end_of_era script j - first_of_era script j))
      ++ lock_line j None

  -- the lines of all eras
  abbrev pub lines_of_eras : List ℕ
  lines_of_eras = flat_map era_lines (range_with_len 0 (length script.eras + 1))

-- after that of the bound
abbrev pub sweep_text : Swept → (seeds : List ℕ) → List ℕ
sweep_text swept seeds =
    bound_line swept.bound ++ lines_of_eras swept.locks swept.script seeds
