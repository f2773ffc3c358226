-- Lines that are written of each run, of any counter: the bound, words of nodes, and which
-- configuration of each era is the first locked one.
use Rattle.std.specs.Prelude.{ℕ, ◌+◌, List, [], ◌∷◌, ◌++◌, length, Option, Some, None, codes}
use Rattle.std.specs.Prelude.{decimal, ◌==◌, if◌then◌else◌}
use Rattle.std.specs.List.{concat, flat_map, range_with_len}
use Rattle.sync_types.specs.FaultSets.{is_in}
use Rattle.adversary_script.specs.Scripts.{Script}
use Rattle.adversary_script.specs.Eras.{first_of_era}

abbrev pub bound_line : ℕ → List ℕ
bound_line bound = (codes "bound " ++ decimal bound) ++ codes "\n"

-- ---- words

-- a word that is a number
abbrev pub number_word : ℕ → List ℕ
number_word n = codes " " ++ decimal n

-- the word of a node, or a star if it is faulty
abbrev pub word_or_star : (word : ℕ → List ℕ) → (faulty : List ℕ) → (v : ℕ) → List ℕ
word_or_star word faulty v = if is_in faulty v then codes " *" else word v

-- the words of so many nodes
abbrev pub words_of : (nodes : ℕ) → (word : ℕ → List ℕ) → (faulty : List ℕ) → List ℕ
words_of nodes word faulty = flat_map (word_or_star word faulty) (range_with_len 0 nodes)

-- ---- locked configurations

abbrev pub locked_line : Option ℕ → List ℕ
locked_line (Some t) = (codes "locked " ++ decimal t) ++ codes "\n"
locked_line None = codes "locked none\n"

-- the beginning of the line of an era that begins with configuration `first`
abbrev pub era_front : (first : ℕ) → List ℕ
era_front first = (codes "era " ++ decimal first) ++ codes " "

-- of a script, if these are the first locked configurations of its eras
module _ (script : Script) (lock_of_era : (j : ℕ) → Option ℕ) where
  abbrev pub era_line : (j : ℕ) → List ℕ
  era_line j = concat (era_front (first_of_era script j) ∷ locked_line (lock_of_era j) ∷ [])

  -- for a script of version 1 one line, else one for each era
  abbrev pub lock_lines : List ℕ
  lock_lines =
      if script.version == 1 then locked_line (lock_of_era 0)
      else flat_map era_line (range_with_len 0 (length script.eras + 1))
