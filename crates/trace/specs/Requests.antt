-- What the words ask for: `FROM TO [NODE ..]`.
use Rattle.std.specs.Prelude.{ℕ, List, [], ◌∷◌, nat_lt, Bool, Option, Some, None}
use Rattle.std.specs.Prelude.{if◌then◌else◌}
use Rattle.std.specs.List.{list_all}
use Rattle.std.specs.Option.{is_some}
use Rattle.texts.specs.Numbers.{number_of}
use Rattle.trace.specs.Wanted.{Wanted}

-- whether each word is a number
abbrev pub are_numbers : List (List ℕ) → Bool
are_numbers words = list_all (λ word. is_some (number_of word)) words

-- the configurations from the one number to the other, in this order
abbrev pub want_by : (first last : Option ℕ) → Option Wanted
want_by (Some first) (Some last) =
    if nat_lt last first then None else Some (record { first = first; last = last })
want_by first last = None

abbrev pub request_of : List (List ℕ) → Option Wanted
request_of [] = None
request_of (word ∷ []) = None
request_of (first ∷ last ∷ nodes) =
    if are_numbers nodes then want_by (number_of first) (number_of last) else None

-- the words of the nodes: those after the two numbers
abbrev pub node_words : List (List ℕ) → List (List ℕ)
node_words [] = []
node_words (word ∷ []) = []
node_words (first ∷ last ∷ nodes) = nodes
