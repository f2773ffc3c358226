-- The nodes that words name.
use Rattle.std.specs.Prelude.{◌≡◌, ℕ, nat_lt, nat_eq, List, length, filter, Bool, true, false, ◌==◌}
use Rattle.std.specs.Prelude.{◌||◌, Option, Some, None}
use Rattle.std.specs.List.{list_any, list_all, range_with_len}
use Rattle.std.specs.Option.{option_eq}
use Rattle.texts.specs.Numbers.{number_of}

-- whether one of these words names node v
abbrev pub is_named : List (List ℕ) → (v : ℕ) → Bool
is_named words v = list_any (λ word. option_eq nat_eq (number_of word) (Some v)) words

-- whether node v is wanted: it is named, or there is no word
abbrev pub is_wanted : List (List ℕ) → (v : ℕ) → Bool
is_wanted words v = length words == 0 || is_named words v

-- a number below this one
abbrev pub is_below : (n : ℕ) → Option ℕ → Bool
is_below n None = false
is_below n (Some id) = nat_lt id n

-- whether each of these words names one of n nodes
abbrev pub are_nodes : List (List ℕ) → (n : ℕ) → Bool
are_nodes words n = list_all (λ word. is_below n (number_of word)) words

-- the nodes that these words name, each once, in rising order; all if there is no word
abbrev pub named_nodes : List (List ℕ) → (n : ℕ) → List ℕ
named_nodes words n = filter (is_wanted words) (range_with_len 0 n)

-- these, if each word names one of n nodes, and else none
abbrev pub IsNaming : List (List ℕ) → (n : ℕ) → Option (List ℕ) → Type 0
IsNaming words n None = are_nodes words n ≡ false
IsNaming words n (Some ids) = (are_nodes words n ≡ true) × (ids ≡ named_nodes words n)
