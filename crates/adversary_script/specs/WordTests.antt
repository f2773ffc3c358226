-- The tests of a script's words and numbers.
use Rattle.std.specs.Prelude.{ℕ, List, [], ◌∷◌, length, Bool, true, false, ◌&&◌, nat_le, nat_lt}
use Rattle.std.specs.Prelude.{Option, Some, None}
use Rattle.std.specs.List.{list_all, list_any}
use Rattle.sync_types.specs.FaultSets.{is_in}
use Rattle.adversary_script.specs.LieWords.{WhoSaid, everyone, between, named, WhatSaid, copy}
use Rattle.adversary_script.specs.LieWords.{LieSaid}

-- the one word, if there is just one
abbrev pub only : List (List ℕ) → Option (List ℕ)
only (word ∷ []) = Some word
only other = None

-- the two words, if there are just two
abbrev pub both : List (List ℕ) → Option (List ℕ × List ℕ)
both (first ∷ second ∷ []) = Some (first, second)
both other = None

-- `a` to `z`
abbrev pub is_letter : ℕ → Bool
is_letter b = nat_le 97 b && nat_le b 122

-- 1 to 16 letters
abbrev pub is_name : List ℕ → Bool
is_name word = nat_le 1 (length word) && nat_le (length word) 16 && list_all is_letter word

-- each id is below n
abbrev pub are_below : ℕ → List ℕ → Bool
are_below n ids = list_all (λ id. nat_lt id n) ids

-- each id is above the one before
abbrev pub is_rising : List ℕ → Bool
is_rising [] = true
is_rising (a ∷ []) = true
is_rising (a ∷ b ∷ ids) = nat_lt a b && is_rising (b ∷ ids)

-- the ids of who hears a lie are below n
abbrev pub who_below : ℕ → WhoSaid → Bool
who_below n everyone = true
who_below n (between p q) = nat_lt p n && nat_lt q n
who_below n (named name) = true

-- the id that a lie copies is below n
abbrev pub what_below : ℕ → WhatSaid → Bool
what_below n (copy w) = nat_lt w n
what_below n other = true

-- the ids of a lie are those of n nodes, and its sender's is in one of these faulty sets
abbrev pub are_ids : ℕ → List (List ℕ) → LieSaid → Bool
are_ids n sets lie =
    nat_lt lie.sender n && list_any (λ ids. is_in ids lie.sender) sets && who_below n lie.who &&
    what_below n lie.what

-- the first of two ids is above the last
abbrev pub is_crossed : WhoSaid → Bool
is_crossed (between p q) = nat_lt q p
is_crossed other = false
