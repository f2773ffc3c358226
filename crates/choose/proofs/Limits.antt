-- A plan of 2,916 nodes tolerates 85 faults, and keeps all limits but that of nodes.
use Rattle.std.proofs.Common.{◌≡◌, ℕ, ◌+◌, ◌*◌, ◌^◌, ◌%◌, ◌<◌, true, List, [], ◌∷◌, refl, arith}
use Rattle.std.specs.Prelude.{nat_lt}
use Rattle.std.proofs.lemmas.Bool.Decides.{nat_tests}
use Rattle.construction.specs.Plans.{Level, Plan, group_size, leaders_of, span_of}
use Rattle.plan_numbers.specs.declared.numbers.Below.{Below}
use Rattle.plan_numbers.specs.Numbers.{below_of}
use Rattle.choose.specs.Limits.{MeetsOthers, LevelsMeetOthers, NodesEndTables}

less_by : (a b : ℕ) → nat_lt a b ≡ true → a < b
less_by a b is = grind (arith, nat_tests)

meets : (below : Below) (level : Level) → nat_lt level.blocks 17 ≡ true
    → nat_lt level.faults 86 ≡ true → nat_lt level.modulus (2 ^ 40 + 1) ≡ true
    → nat_lt 2 level.blocks ≡ true → nat_lt 1 level.modulus ≡ true
    → nat_lt (3 * level.faults) (group_size level below.nodes) ≡ true
    → nat_lt level.faults ((below.faults + 1) * leaders_of level) ≡ true
    → below.modulus % span_of level ≡ 0 → MeetsOthers below level
meets below level blocks faults modulus some counts quorum share multiple = record {
  most_blocks = omega (arith, less_by level.blocks 17 blocks);
  most_faults = omega (arith, less_by level.faults 86 faults);
  most_modulus = omega (arith, less_by level.modulus (2 ^ 40 + 1) modulus);
  blocks = less_by 2 level.blocks some;
  modulus = less_by 1 level.modulus counts;
  quorum = less_by (3 * level.faults) (group_size level below.nodes) quorum;
  share = less_by level.faults ((below.faults + 1) * leaders_of level) share;
  multiple = multiple;
}

-- three blocks a level
abbrev three : (faults modulus spares : ℕ) → Level
three faults modulus spares =
    record { blocks = 3; faults = faults; modulus = modulus; spares = spares }

abbrev upper : (below : List Level) → List Level
upper below = three 85 2 0 ∷ three 63 16704 0 ∷ three 31 12480 0 ∷ below

abbrev lower : List Level
lower = three 15 6336 0 ∷ three 7 3264 0 ∷ three 3 1728 0 ∷ three 1 960 1 ∷ []

abbrev large : Plan
large = record { version = 2; base = 576; levels = upper lower }

first_is : LevelsMeetOthers 576 (three 1 960 1 ∷ [])
first_is =
    (refl, meets (below_of 576 []) (three 1 960 1) refl refl refl refl refl refl refl refl)

second_is : LevelsMeetOthers 576 (three 3 1728 0 ∷ three 1 960 1 ∷ [])
second_is =
    let below = below_of 576 (three 1 960 1 ∷ []) in
    (first_is, meets below (three 3 1728 0) refl refl refl refl refl refl refl refl)

third_is : LevelsMeetOthers 576 (three 7 3264 0 ∷ three 3 1728 0 ∷ three 1 960 1 ∷ [])
third_is =
    let below = below_of 576 (three 3 1728 0 ∷ three 1 960 1 ∷ []) in
    (second_is, meets below (three 7 3264 0) refl refl refl refl refl refl refl refl)

lower_is : LevelsMeetOthers 576 lower
lower_is =
    let below = below_of 576 (three 7 3264 0 ∷ three 3 1728 0 ∷ three 1 960 1 ∷ []) in
    (third_is, meets below (three 15 6336 0) refl refl refl refl refl refl refl refl)

fifth_is : LevelsMeetOthers 576 (three 31 12480 0 ∷ lower)
fifth_is =
    let below = below_of 576 lower in
    (lower_is, meets below (three 31 12480 0) refl refl refl refl refl refl refl refl)

sixth_is : LevelsMeetOthers 576 (three 63 16704 0 ∷ three 31 12480 0 ∷ lower)
sixth_is =
    let below = below_of 576 (three 31 12480 0 ∷ lower) in
    (fifth_is, meets below (three 63 16704 0) refl refl refl refl refl refl refl refl)

upper_is : LevelsMeetOthers 576 (upper lower)
upper_is =
    let below = below_of 576 (three 63 16704 0 ∷ three 31 12480 0 ∷ lower) in
    (sixth_is, meets below (three 85 2 0) refl refl refl refl refl refl refl refl)

pub nodes_end_tables : NodesEndTables
nodes_end_tables = (large, upper_is, refl)
