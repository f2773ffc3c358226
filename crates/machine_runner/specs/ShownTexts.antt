-- What is written of a script that is played on a machine: the bound, a line of each configuration
-- that is shown, and the first locked configuration of each era.
use Rattle.std.specs.Prelude.{ℕ, ◌+◌, ◌-◌, List, [], ◌∷◌, ◌++◌, Option, codes, decimal}
use Rattle.std.specs.List.{concat, flat_map, range_with_len}
use Rattle.construction.specs.Steps.{state_of}
use Rattle.adversary_script.specs.Scripts.{Script}
use Rattle.adversary_script.specs.Eras.{faulty_at}
use Rattle.machines.specs.Machines.{Machine}
use Rattle.machine_runner.specs.Locks.{first_locked, era_locked}
use Rattle.machine_runner.specs.Played.{played_at}
use Rattle.machine_runner.specs.RunTexts.{bound_line, number_word, words_of, lock_lines}

-- the first locked configuration of era j of what is played
abbrev pub lock_played : Machine → Script → (j : ℕ) → Option ℕ
lock_played machine script j =
    first_locked (era_locked machine script (played_at machine script) j) script.rounds

-- Lines with a label, the number of a configuration, and a word of each node by what it shows.
module _ (label : List ℕ) (word : (output v : ℕ) → List ℕ) (machine : Machine)
    (script : Script) where
  -- the word of node v in configuration t
  abbrev pub word_at : (t v : ℕ) → List ℕ
  word_at t v = word (machine.shows v (state_of (played_at machine script t) v)) v

  -- the line of configuration t
  abbrev pub shown_line : (t : ℕ) → List ℕ
  shown_line t =
      concat ((label ++ decimal t) ∷ words_of machine.nodes (word_at t) (faulty_at script t)
      ∷ codes "\n" ∷ [])

  -- the lines that are shown
  abbrev pub shown_lines : List ℕ
  shown_lines =
      flat_map shown_line (range_with_len script.first (script.last + 1 - script.first))

  -- all that is written
  abbrev pub shown_text : List ℕ
  shown_text =
      concat (bound_line machine.bound ∷ shown_lines
      ∷ lock_lines script (lock_played machine script) ∷ [])

-- what the word `run` writes: of each configuration that is shown, what its nodes show
abbrev pub run_text : Machine → Script → List ℕ
run_text machine script =
    shown_text (codes "row ") (λ output v. number_word output) machine script
