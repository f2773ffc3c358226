-- What the words ask for: `SEED RUNS [KIND ..]`.
use Rattle.std.specs.Prelude.{ℕ, ◌^◌, List, [], ◌∷◌, ◌||◌, nat_le, nat_lt, Bool, Option, Some}
use Rattle.std.specs.Prelude.{None, if◌then◌else◌}
use Rattle.std.specs.List.{list_all}
use Rattle.std.specs.Option.{is_some}
use Rattle.texts.specs.Numbers.{number_of}
use Rattle.attack.specs.Kinds.{kind_of}
use Rattle.attack.specs.declared.kinds.Kind.{Kind}
use Rattle.attack.specs.declared.requests.Numbers.{Numbers}

-- the numbers of a search: a seed of at most 15 digits, and 1 to 1,000,000 attacks
abbrev pub numbers_with : (seed runs : ℕ) → Option Numbers
numbers_with seed runs =
    if nat_le (10 ^ 15) seed || nat_lt runs 1 || nat_lt 1000000 runs then None
    else Some (record { seed = seed; runs = runs })

-- the same, if each word is a number
abbrev pub numbers_by : (seed runs : Option ℕ) → Option Numbers
numbers_by (Some seed) (Some runs) = numbers_with seed runs
numbers_by seed runs = None

-- whether each word is that of a kind
abbrev pub are_kinds : List (List ℕ) → Bool
are_kinds words = list_all (λ word. is_some (kind_of word)) words

abbrev pub request_of : List (List ℕ) → Option Numbers
request_of [] = None
request_of (word ∷ []) = None
request_of (seed ∷ runs ∷ kinds) =
    if are_kinds kinds then numbers_by (number_of seed) (number_of runs) else None

-- the words of the kinds: those after the two numbers
abbrev pub kind_words : List (List ℕ) → List (List ℕ)
kind_words [] = []
kind_words (word ∷ []) = []
kind_words (seed ∷ runs ∷ kinds) = kinds

abbrev pub with_kind : Option Kind → List Kind → List Kind
with_kind None kinds = kinds
with_kind (Some kind) kinds = kind ∷ kinds

-- the kinds that words name
abbrev pub named_kinds : List (List ℕ) → List Kind
named_kinds [] = []
named_kinds (word ∷ words) = with_kind (kind_of word) (named_kinds words)
