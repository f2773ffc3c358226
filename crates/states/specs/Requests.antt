-- What the words ask for: with none, that the states of the input are turned.
use Rattle.std.specs.Prelude.{ℕ, List, [], ◌∷◌, Option, Some, None}

abbrev pub request_of : List (List ℕ) → Option (Unit {0})
request_of [] = Some (tt {0})
request_of (word ∷ words) = None
