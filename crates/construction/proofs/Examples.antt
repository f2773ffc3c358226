-- Worked values of the definitions, by computation.
use Rattle.std.proofs.Common.{◌≡◌, ℕ, ◌^◌, List, [], ◌∷◌, Option, Some, None, true, false, map}
use Rattle.std.proofs.Common.{refl}
use Rattle.std.specs.List.{range_with_len}
use Rattle.sync_types.specs.declared.states.Reg.{Reg}
use Rattle.sync_types.specs.States.{State}
use Rattle.construction.specs.Widths.{width}
use Rattle.construction.specs.Plans.{Level, Plan, beat_of, span_of, plan_nodes, plan_faults}
use Rattle.construction.specs.Plans.{plan_bound, plan_bits, plan_low}
use Rattle.construction.specs.Pointers.{pointer_of, part_of}
use Rattle.construction.specs.PhaseKing.{instructed, up}
use Rattle.construction.specs.Steps.{step_of}
use Rattle.construction.specs.Runs.{heard_by}

-- ---- widths

width_one : width 1 ≡ 0
unfolding width
width_one = refl

width_five : width 5 ≡ 3
unfolding width
width_five = refl

width_most : width (2 ^ 40) ≡ 40
unfolding width
width_most = refl

-- ---- pointers, for beat 9 and two leaders

first_block : pointer_of 9 2 0 9 ≡ 1
first_block = refl

last_block_stays : pointer_of 9 2 3 575 ≡ 0
last_block_stays = refl

last_block_turns : pointer_of 9 2 3 576 ≡ 1
last_block_turns = refl

last_part : part_of 9 575 ≡ 8
last_part = refl

-- ---- the numbers of plans

abbrev level : ℕ → ℕ → ℕ → Level
level k f c = record { blocks = k; faults = f; modulus = c; spares = 0 }

abbrev plan : ℕ → List Level → Plan
plan base levels = record { version = 1; base = base; levels = levels }

abbrev alone : Plan
alone = plan 5 []

alone_bits : plan_bits alone ≡ 3
unfolding width
alone_bits = refl

abbrev four : Plan
four = plan 2304 (level 4 1 10 ∷ [])

four_nodes : plan_nodes four ≡ 4
four_nodes = refl

four_bound : plan_bound four ≡ 2304
four_bound = refl

four_bits : plan_bits four ≡ 17
unfolding width
four_bits = refl

abbrev twelve : Plan
twelve = plan 2304 (level 3 3 10 ∷ level 4 1 960 ∷ [])

twelve_nodes : plan_nodes twelve ≡ 12
twelve_nodes = refl

twelve_faults : plan_faults twelve ≡ 3
twelve_faults = refl

twelve_beat : beat_of (level 3 3 10) ≡ 15
twelve_beat = refl

twelve_span : span_of (level 3 3 10) ≡ 960
twelve_span = refl

twelve_bound : plan_bound twelve ≡ 3264
twelve_bound = refl

twelve_bits : plan_bits twelve ≡ 28
unfolding width
twelve_bits = refl

abbrev many : Plan
many = plan 2304 (level 3 7 10 ∷ level 3 3 1728 ∷ level 4 1 960 ∷ [])

many_nodes : plan_nodes many ≡ 36
many_nodes = refl

many_bound : plan_bound many ≡ 4992
many_bound = refl

many_bits : plan_bits many ≡ 40
unfolding width
many_bits = refl

-- ---- the phase king, for four nodes, one fault and the modulus 10

abbrev finite : ℕ → Reg
finite a = record { a = Some a; d = false }

abbrev infinite : Reg
infinite = record { a = None; d = false }

abbrev marked : Option ℕ → Reg
marked a = record { a = a; d = true }

abbrev king_step : ℕ → Reg → List (Option ℕ) → Reg
king_step kind own values = instructed 4 1 (up 10) kind own values 0

too_few_agree : king_step 0 (finite 3) (Some 3 ∷ Some 3 ∷ Some 9 ∷ Some 9 ∷ []) ≡ infinite
too_few_agree = refl

two_are_more_than_one : king_step 1 (finite 4) (Some 4 ∷ Some 4 ∷ None ∷ Some 7 ∷ []) ≡ finite 5
two_are_more_than_one = refl

no_value_twice : king_step 1 (finite 1) (Some 1 ∷ Some 2 ∷ Some 3 ∷ Some 4 ∷ []) ≡ infinite
no_value_twice = refl

infinite_king : king_step 2 infinite (None ∷ None ∷ None ∷ None ∷ []) ≡ marked (Some 1)
infinite_king = refl

wraps_round : king_step 2 (marked (Some 9)) (Some 9 ∷ Some 9 ∷ Some 9 ∷ Some 9 ∷ [])
    ≡ marked (Some 0)
wraps_round = refl

-- ---- steps and rounds of the plan with four nodes

abbrev state : ℕ → Reg → State
state x register = record { x = x; registers = register ∷ [] }

-- three zero states, and a node with the value 7
abbrev one_differs : List State
one_differs = state 0 (finite 0) ∷ state 0 (finite 0) ∷ state 0 (finite 0) ∷ state 0 (finite 7) ∷ []

most_agree : step_of four 0 one_differs ≡ state 1 (finite 1)
most_agree = refl

one_is_alone : step_of four 3 one_differs ≡ state 1 infinite
one_is_alone = refl

-- the next round is of kind 1: the three are marked, and the fourth takes their value without a
-- mark
abbrev after_one : List State
after_one = state 1 (finite 1) ∷ state 1 (finite 1) ∷ state 1 (finite 1) ∷ state 1 infinite ∷ []

three_are_marked : step_of four 1 after_one ≡ state 2 (marked (Some 2))
three_are_marked = refl

fourth_is_not : step_of four 3 after_one ≡ state 2 (finite 2)
fourth_is_not = refl

-- Node 3 lies: node 0 hears the value 0 of it, and nodes 1 and 2 hear 5, as node 2 has.
abbrev split : List State
split = state 0 (finite 0) ∷ state 0 (finite 0) ∷ state 0 (finite 5) ∷ state 0 (finite 0) ∷ []

abbrev lies : List (List State)
lies =
    let zero = state 0 (finite 0) in
    let five = state 0 (finite 5) in
    split ∷ split ∷ split ∷ (zero ∷ five ∷ five ∷ zero ∷ []) ∷ []

hears_three_zeros : step_of four 0 (heard_by 4 (3 ∷ []) split lies 0) ≡ state 1 (finite 1)
hears_three_zeros = refl

hears_two_of_each : step_of four 1 (heard_by 4 (3 ∷ []) split lies 1) ≡ state 1 infinite
hears_two_of_each = refl

-- what a faulty node hears of itself is its own state
hears_itself : heard_by 4 (3 ∷ []) split lies 3 ≡ split
hears_itself = refl

-- ---- a plan with a spare node: three blocks of one node tolerate a fault, since four are counted

abbrev with_spares : ℕ → ℕ → ℕ → ℕ → Level
with_spares k f c s = record { blocks = k; faults = f; modulus = c; spares = s }

abbrev spared : Level
spared = with_spares 3 1 10 1

abbrev three_and_one : Plan
three_and_one = record { version = 2; base = 576; levels = spared ∷ [] }

three_and_one_nodes : plan_nodes three_and_one ≡ 4
three_and_one_nodes = refl

three_and_one_faults : plan_faults three_and_one ≡ 1
three_and_one_faults = refl

three_and_one_beat : beat_of spared ≡ 9
three_and_one_beat = refl

three_and_one_span : span_of spared ≡ 576
three_and_one_span = refl

three_and_one_bound : plan_bound three_and_one ≡ 576
three_and_one_bound = refl

three_and_one_bits : plan_bits three_and_one ≡ 15
unfolding width
three_and_one_bits = refl

three_and_one_lows : map (plan_low three_and_one) (range_with_len 0 4) ≡ 0 ∷ 0 ∷ 0 ∷ 1 ∷ []
three_and_one_lows = refl

-- the first round: a spare has a register and no number
nodes_of_blocks_agree : step_of three_and_one 0 one_differs ≡ state 1 (finite 1)
nodes_of_blocks_agree = refl

spare_is_alone : step_of three_and_one 3 one_differs ≡ state 0 infinite
spare_is_alone = refl

abbrev all_step : List State → List State
all_step config = map (λ v. step_of three_and_one v config) (range_with_len 0 4)

-- the second round: the three are marked, and the spare takes their value
abbrev three_marked : List State
three_marked = let s = state 2 (marked (Some 2)) in s ∷ s ∷ s ∷ state 0 (finite 2) ∷ []

spare_takes_the_value : all_step (all_step one_differs) ≡ three_marked
spare_takes_the_value = refl

-- and the third: it takes the king's
abbrev all_marked : List State
all_marked = let s = state 3 (marked (Some 3)) in s ∷ s ∷ s ∷ state 0 (marked (Some 3)) ∷ []

spare_takes_the_kings : all_step three_marked ≡ all_marked
spare_takes_the_kings = refl

-- A king is a node of the whole group. In this plan, which isn't an accepted one, the last is a
-- spare.
abbrev four_kings : Plan
four_kings = record { version = 2; base = 768; levels = with_spares 3 2 10 4 ∷ [] }

abbrev spare_is_king : List State
spare_is_king =
    let s = state 11 infinite in
    let none = state 0 infinite in
    s ∷ s ∷ s ∷ state 0 (finite 7) ∷ none ∷ none ∷ none ∷ []

spares_value_is_taken : step_of four_kings 0 spare_is_king ≡ state 12 (marked (Some 8))
spares_value_is_taken = refl

-- ---- two levels: three blocks, each with a spare of the first level, and a spare of the second

abbrev thirteen : Plan
thirteen =
    record { version = 2; base = 576; levels = with_spares 3 3 10 1 ∷ with_spares 3 1 960 1 ∷ [] }

thirteen_nodes : plan_nodes thirteen ≡ 13
thirteen_nodes = refl

thirteen_bound : plan_bound thirteen ≡ 1536
thirteen_bound = refl

thirteen_lows : map (plan_low thirteen) (range_with_len 0 13)
    ≡ 0 ∷ 0 ∷ 0 ∷ 1 ∷ 0 ∷ 0 ∷ 0 ∷ 1 ∷ 0 ∷ 0 ∷ 0 ∷ 1 ∷ 2 ∷ []
thirteen_lows = refl
