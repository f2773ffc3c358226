-- The lines that say which nodes are faulty, with their tests in their order.
use Rattle.std.specs.Prelude.{ℕ, List, [], ◌∷◌, ◌++◌, ◌-◌, length, Bool, ◌==◌, ◌||◌, not, nat_le}
use Rattle.std.specs.Prelude.{nat_lt, Option, Some, None, unwrap_or, Result, Ok, Err, codes}
use Rattle.std.specs.Prelude.{slice_get, if◌then◌else◌}
use Rattle.std.specs.Option.{option_map}
use Rattle.std.specs.Str.{bytes_eq}
use Rattle.texts.specs.Numbers.{number_of}
use Rattle.sync_types.specs.declared.answers.Rule.{Rule}
use Rattle.sync_types.specs.declared.answers.Rule.TheVariants.{Form, Limit, Node, Order, Faults}
use Rattle.adversary_script.specs.WordTests.{are_below, is_rising}
use Rattle.texts.specs.Shapes.{all_numbers}
use Rattle.adversary_script.specs.Scripts.{Era, Script}
use Rattle.adversary_script.specs.Tested.{tested}

-- `faulty` and ids, of which there are f at most
abbrev pub faulty_tests : (f : ℕ) → Script → List ℕ → List (Bool × Rule)
faulty_tests f s ids =
    (not (are_below s.nodes ids), Node)
    ∷ (not (is_rising ids), Order)
    ∷ (nat_lt f (length ids), Faults) ∷ []

abbrev pub faulty_tested : (f : ℕ) → Script → Option (List ℕ) → Result Script Rule
faulty_tested f s None = Err Form
faulty_tested f s (Some ids) = tested (faulty_tests f s ids) (Ok (record s { faulty = ids }))

-- the number of `A faulty`, and the words after it
abbrev pub era_front : List (List ℕ) → Option (ℕ × List (List ℕ))
era_front (a ∷ key ∷ words) =
    if bytes_eq key (codes "faulty") then option_map (λ first. (first, words)) (number_of a)
    else None
era_front other = None

-- a number, and the ids that the words after it are
abbrev pub with_ids : Option (ℕ × List (List ℕ)) → Option (ℕ × List ℕ)
with_ids None = None
with_ids (Some front) = option_map (λ ids. (front.0, ids)) (all_numbers front.1)

-- `A faulty` and ids
abbrev pub era_words : List (List ℕ) → Option (ℕ × List ℕ)
era_words words = with_ids (era_front words)

-- the last of further eras
abbrev pub last_era : List Era → Option Era
last_era eras = slice_get eras (length eras - 1)

-- the first configuration of the last era
abbrev pub last_first : Script → ℕ
last_first s = unwrap_or (option_map (λ era. era.first) (last_era s.eras)) 0

-- one more era, from a configuration on with these faulty nodes
abbrev pub with_era : Script → (first : ℕ) → (ids : List ℕ) → Script
with_era s first ids =
    record s { eras = s.eras ++ record { first = first; faulty = ids; starts = [] } ∷ [] }

abbrev pub era_tests : (f : ℕ) → Script → (first : ℕ) → (ids : List ℕ) → List (Bool × Rule)
era_tests f s first ids =
    (s.version == 1, Form)
    ∷ (nat_le 16 (length s.eras), Limit)
    ∷ (not (are_below s.nodes ids), Node)
    ∷ (nat_le first (last_first s) || not (is_rising ids), Order)
    ∷ (nat_lt f (length ids), Faults) ∷ []

abbrev pub era_tested : (f : ℕ) → Script → Option (ℕ × List ℕ) → Result Script Rule
era_tested f s None = Err Form
era_tested f s (Some said) =
    tested (era_tests f s said.0 said.1) (Ok (with_era s said.0 said.1))

-- `era A faulty` and ids, by the words after the first
abbrev pub era_step : (f : ℕ) → Script → List (List ℕ) → Result Script Rule
era_step f s words = era_tested f s (era_words words)
