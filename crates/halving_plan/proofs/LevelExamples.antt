-- Worked values of a level state's step, by computation: four nodes that tolerate one fault, with
-- halves of one node each.
use Rattle.std.proofs.Common.{◌≡◌, ℕ, Bool, List, [], ◌∷◌, Some, true, false, refl}
use Rattle.construction.specs.PhaseKing.{up}
use Rattle.halving_plan.specs.Halves.{Halves, faults_of, right_period, right_share, left_share}
use Rattle.halving_plan.specs.Halves.{left_period, left_wait, phases, right_wait}
use Rattle.halving_plan.specs.LevelStates.{LevelState, level_state_after, shown}

-- the faults, then the shares and the periods, then how long it takes
numbers : Halves → List ℕ
numbers halves =
    faults_of halves ∷ right_share halves ∷ left_share halves ∷ left_period halves
    ∷ right_period halves ∷ left_wait halves ∷ phases halves ∷ right_wait halves ∷ []

abbrev four : Halves
four = record { left_nodes = 1; left_faults = 0; right_nodes = 1; right_faults = 0; nodes = 4 }

of_four : numbers four ≡ 1 ∷ 5 ∷ 3 ∷ 8 ∷ 3 ∷ 16 ∷ 3 ∷ 11 ∷ []
unfolding numbers
of_four = refl

abbrev seven : Halves
seven = record { left_nodes = 1; left_faults = 0; right_nodes = 4; right_faults = 1; nodes = 7 }

of_seven : numbers seven ≡ 2 ∷ 8 ∷ 3 ∷ 11 ∷ 6 ∷ 22 ∷ 2 ∷ 14 ∷ []
unfolding numbers
of_seven = refl

-- what a half of three nodes shows that counts modulo 8
two_of_three : shown 8 (6 ∷ 1 ∷ 6 ∷ []) ≡ 6
two_of_three = refl

no_two : shown 8 (6 ∷ 1 ∷ 5 ∷ []) ≡ 0
no_two = refl

too_much : shown 8 (14 ∷ 1 ∷ 14 ∷ []) ≡ 6
too_much = refl

-- a level state with this value
abbrev has : (value seen : ℕ) (trusted : Bool) → LevelState
has value seen trusted =
    record { register = record { a = Some value; d = false }; seen = seen; trusted = trusted }

abbrev locked : (value seen : ℕ) (trusted : Bool) → LevelState
locked value seen trusted =
    record { register = record { a = Some value; d = true }; seen = seen; trusted = trusted }

-- node 3, the last one, goes on; the halves show these
abbrev step : (left right : ℕ) → (own one two three : LevelState) → LevelState
step left right own one two three =
    level_state_after four (up 10) own (left ∷ []) (right ∷ []) (one ∷ two ∷ three ∷ own ∷ [])

-- in its share the left half is followed: 7 is its instruction 2, which takes the value of its king
follows_left : step 0 2 (has 7 7 true) (has 1 7 true) (has 2 7 true) (has 3 7 true)
    ≡ locked 2 0 false
follows_left = refl

-- before its share, the right half, which shows instruction 2, under a king of its own
share_of_right : step 5 2 (has 7 4 true) (has 1 4 true) (has 2 4 true) (has 3 4 true)
    ≡ locked 3 5 true
share_of_right = refl

-- and so it is without trust
without_trust : step 8 2 (has 7 7 false) (has 1 7 true) (has 2 7 true) (has 3 7 true)
    ≡ locked 3 0 false
without_trust = refl

-- three of four back what was seen, the node itself among them, and two do not
three_back : step 5 2 (has 7 4 true) (has 1 0 true) (has 2 4 false) (has 3 4 false)
    ≡ locked 3 5 true
three_back = refl

two_do_not : step 5 2 (has 7 4 true) (has 1 0 true) (has 2 0 true) (has 3 4 true)
    ≡ locked 3 5 false
two_do_not = refl

two_do_not_follow : step 7 2 (has 7 6 true) (has 1 0 true) (has 2 0 true) (has 3 6 true)
    ≡ locked 3 7 false
two_do_not_follow = refl

-- trust begins with 0
begins : step 1 2 (has 7 0 false) (has 1 0 false) (has 2 0 false) (has 3 0 false) ≡ locked 3 1 true
begins = refl

begins_with_no_other : step 2 2 (has 7 1 false) (has 1 1 true) (has 2 1 true) (has 3 1 true)
    ≡ locked 3 2 false
begins_with_no_other = refl

-- and ends where the left half does not go on
ends : step 6 2 (has 7 4 true) (has 1 4 true) (has 2 4 true) (has 3 4 true) ≡ locked 3 6 false
ends = refl
