-- A search that is asked for has at least one try.
use Rattle.std.proofs.Common.{◌≡◌, ℕ, ◌^◌, ◌≤◌, Bool, true, false, ◌||◌, List, [], ◌∷◌, Option}
use Rattle.std.proofs.Common.{Some, None, refl, subst}
use Rattle.std.specs.Prelude.{IfSome, nat_le, nat_lt, if◌then◌else◌}
use Rattle.std.proofs.lemmas.Bool.{ltb-false, or_parts}
use Rattle.texts.specs.Numbers.{number_of}
use Rattle.attack.specs.Requests.{numbers_by, are_kinds, request_of}
use Rattle.attack.specs.declared.requests.Numbers.{Numbers}

abbrev HasRuns : Numbers → Type 0
HasRuns numbers = 1 ≤ numbers.runs

with_by : (seed runs : ℕ) (refused : Bool)
    → (nat_le (10 ^ 15) seed || nat_lt runs 1 || nat_lt 1000000 runs) ≡ refused
    → IfSome (if refused then None else Some (record { seed = seed; runs = runs })) HasRuns
with_by seed runs true is = tt
with_by seed runs false is =
    let front = or_parts (nat_le (10 ^ 15) seed || nat_lt runs 1) (nat_lt 1000000 runs) is in
    ltb-false runs 1 (or_parts (nat_le (10 ^ 15) seed) (nat_lt runs 1) front.0).1

by_have : (seed runs : Option ℕ) → IfSome (numbers_by seed runs) HasRuns
by_have None runs = tt
by_have (Some seed) None = tt
by_have (Some seed) (Some runs) = with_by seed runs _ refl

if_kinds : (all : Bool) (numbers : Option Numbers) → IfSome numbers HasRuns
    → IfSome (if all then numbers else None) HasRuns
if_kinds true numbers has = has
if_kinds false numbers has = tt

all_have : (words : List (List ℕ)) → IfSome (request_of words) HasRuns
all_have [] = tt
all_have (word ∷ []) = tt
all_have (seed ∷ runs ∷ kinds) =
    if_kinds (are_kinds kinds) (numbers_by (number_of seed) (number_of runs))
    (by_have (number_of seed) (number_of runs))

pub asked_have_runs : (words : List (List ℕ)) (numbers : Numbers)
    → request_of words ≡ Some numbers → 1 ≤ numbers.runs
asked_have_runs words numbers is =
    subst (λ (asked : Option Numbers). IfSome asked HasRuns) is (all_have words)
