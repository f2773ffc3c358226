-- Worked values of the definitions, by computation.
use Rattle.std.proofs.Common.{◌≡◌, ℕ, zero, suc, ◌+◌, ◌*◌, ◌%◌, List, [], ◌∷◌, Option, Some, None}
use Rattle.std.proofs.Common.{true, false, map, sum_by, eqb, refl}
use Rattle.std.specs.List.{range_with_len}
use Rattle.sync_types.specs.declared.states.Reg.{Reg}
use Rattle.sync_types.specs.States.{State}
use Rattle.construction.specs.Widths.{width}
use Rattle.construction.specs.Runs.{heard_by}
use Rattle.halving_plan.specs.Trees.{Tree, One, Split, tree_faults, tree_nodes}
use Rattle.halving_plan.specs.Trees.{tree_height, tree_bound, tree_for}
use Rattle.halving_plan.specs.Steps.{step_of}
use Rattle.halving_plan.specs.Runs.{fields_in}

-- ---- numbers of trees

numbers : Tree → List ℕ
numbers tree = tree_faults tree ∷ tree_nodes tree ∷ tree_height tree
    ∷ tree_bound tree ∷ []

-- a group of two nodes and two spares
four_nodes : tree_for 1 0 ≡ Split One One 0
four_nodes = refl

one_fault : numbers (tree_for 1 0) ≡ 1 ∷ 4 ∷ 1 ∷ 16 ∷ []
unfolding numbers
one_fault = refl

two_faults : numbers (tree_for 2 0) ≡ 2 ∷ 7 ∷ 2 ∷ 30 ∷ []
unfolding numbers
two_faults = refl

three_faults : numbers (tree_for 3 0) ≡ 3 ∷ 10 ∷ 2 ∷ 44 ∷ []
unfolding numbers
three_faults = refl

four_faults : numbers (tree_for 4 0) ≡ 4 ∷ 13 ∷ 3 ∷ 50 ∷ []
unfolding numbers
four_faults = refl

five_faults : numbers (tree_for 5 0) ≡ 5 ∷ 16 ∷ 3 ∷ 70 ∷ []
unfolding numbers
five_faults = refl

six_faults : numbers (tree_for 6 0) ≡ 6 ∷ 19 ∷ 3 ∷ 76 ∷ []
unfolding numbers
six_faults = refl

ten_faults : numbers (tree_for 10 0) ≡ 10 ∷ 31 ∷ 4 ∷ 120 ∷ []
unfolding numbers
ten_faults = refl

most_faults : numbers (tree_for 85 0) ≡ 85 ∷ 256 ∷ 8 ∷ 854 ∷ []
unfolding numbers
most_faults = refl

-- spares are more of the same group, at no cost of time
with_spares : numbers (tree_for 3 6) ≡ 3 ∷ 16 ∷ 2 ∷ 44 ∷ []
unfolding numbers
with_spares = refl

-- ---- fields of nodes

-- how many bits hold the states that node v may have: those of the number, and for each register
-- those of a value, infinity among them, and a mark
bits : Tree → (modulus v : ℕ) → ℕ
bits tree modulus v =
    let fields = fields_in tree modulus v in
    width fields.base + sum_by (λ m. width (m + 1) + 1) fields.moduli

first_of_four : fields_in (tree_for 1 0) 1000 0
    ≡ record { base = 8; moduli = 1000 ∷ 8 ∷ [] }
first_of_four = refl

second_of_four : fields_in (tree_for 1 0) 1000 1
    ≡ record { base = 3; moduli = 1000 ∷ 8 ∷ [] }
second_of_four = refl

spare_of_four : fields_in (tree_for 1 0) 1000 2
    ≡ record { base = 1; moduli = 1000 ∷ 8 ∷ [] }
spare_of_four = refl

-- node 5 of thirteen is the left half of the right half of the right half
sixth_of_thirteen : fields_in (tree_for 4 0) 1000 5
    ≡ record { base = 8; moduli = 1000 ∷ 17 ∷ 9 ∷ 11 ∷ 6 ∷ 8 ∷ [] }
sixth_of_thirteen = refl

bits_of_four : map (bits (tree_for 1 0) 1000) (range_with_len 0 4) ≡ 19 ∷ 18 ∷ 16 ∷ 16 ∷ []
unfolding bits width
bits_of_four = refl

bits_of_thirteen : map (bits (tree_for 4 0) 1000) (range_with_len 0 13)
    ≡ 31 ∷ 30 ∷ 28 ∷ 28 ∷ 31 ∷ 39 ∷ 38 ∷ 36 ∷ 36 ∷ 27 ∷ 27 ∷ 17 ∷ 17 ∷ []
unfolding bits width
bits_of_thirteen = refl

bits_of_most : bits (tree_for 85 0) 1000 0 ≡ 81
unfolding bits width
bits_of_most = refl

-- ---- runs of four nodes that count modulo 10, of which one lies

-- the left half is node 0, and counts modulo 8; the right one is node 1, and counts modulo 3
abbrev four : Tree
four = tree_for 1 0

abbrev plain : Option ℕ → Reg
plain a = record { a = a; d = false }

abbrev marked : Option ℕ → Reg
marked a = record { a = a; d = true }

abbrev state : ℕ → (king left : Reg) → State
state x king left = record { x = x; registers = king ∷ left ∷ [] }

-- what node 0 or 1 tells node v in round t, if it lies
abbrev lie : (liar t v : ℕ) → State
lie zero t v = state ((t + v) % 8) (record { a = Some ((3 * t + v) % 10); d = eqb v 1 })
    (record { a = Some ((t + 2 * v) % 8); d = eqb ((t + v) % 2) 0 })
lie (suc liar) t v = state ((t + v) % 3) (record { a = Some ((3 * t + v) % 10); d = eqb v 0 })
    (record { a = Some ((t + v) % 8); d = eqb ((t + v) % 2) 0 })

-- round t; the node that lies goes on as the others do, by what it hears
abbrev round : (liar t : ℕ) → List State → List State
round liar t config =
    let told : ℕ → List State = λ u. map (lie u t) (range_with_len 0 4) in
    let lies = told 0 ∷ told 1 ∷ [] in
    map (λ v. step_of four 10 v (heard_by 4 (liar ∷ []) config lies v)) (range_with_len 0 4)

-- so many rounds from round t on
rounds : (liar count t : ℕ) → List State → List State
rounds liar zero t config = config
rounds liar (suc count) t config = rounds liar count (t + 1) (round liar t config)

-- node 0 lies: the right half's phases lock the registers

abbrev left_lies_start : List State
left_lies_start =
    state 7 (plain (Some 3)) (marked (Some 4))
    ∷ state 2 (marked None) (marked (Some 7))
    ∷ state 0 (marked (Some 5)) (marked (Some 7))
    ∷ state 0 (plain (Some 8)) (plain None) ∷ []

abbrev left_has_lied : List State
left_has_lied =
    state 0 (marked (Some 1)) (plain (Some 7))
    ∷ state 0 (marked (Some 1)) (plain (Some 1))
    ∷ state 0 (marked (Some 6)) (plain (Some 2))
    ∷ state 0 (marked (Some 1)) (plain (Some 3)) ∷ []

left_has_lied_is : rounds 0 1 0 left_lies_start ≡ left_has_lied
unfolding rounds
left_has_lied_is = refl

-- its king has had three rounds
abbrev left_is_locked : List State
left_is_locked =
    state 3 (marked (Some 1)) (plain (Some 2))
    ∷ state 0 (marked (Some 1)) (plain (Some 4))
    ∷ state 0 (marked (Some 1)) (plain (Some 5))
    ∷ state 0 (marked (Some 1)) (plain (Some 6)) ∷ []

left_is_locked_is : rounds 0 3 1 left_has_lied ≡ left_is_locked
unfolding rounds
left_is_locked_is = refl

abbrev left_at_the_bound : List State
left_at_the_bound =
    state 7 (marked (Some 3)) (plain (Some 6))
    ∷ state 0 (marked (Some 3)) (plain (Some 0))
    ∷ state 0 (marked (Some 3)) (plain (Some 1))
    ∷ state 0 (marked (Some 3)) (plain (Some 2)) ∷ []

left_at_the_bound_is : rounds 0 12 4 left_is_locked ≡ left_at_the_bound
unfolding rounds
left_at_the_bound_is = refl

-- node 1 lies: the left half earns trust, and is followed

abbrev right_lies_start : List State
right_lies_start =
    state 7 (plain (Some 3)) (marked (Some 4))
    ∷ state 2 (marked None) (marked (Some 7))
    ∷ state 0 (marked (Some 5)) (marked (Some 7))
    ∷ state 0 (plain (Some 8)) (plain None) ∷ []

abbrev right_has_lied : List State
right_has_lied =
    state 0 (plain None) (plain (Some 7))
    ∷ state 0 (marked (Some 1)) (plain (Some 7))
    ∷ state 0 (marked (Some 6)) (plain (Some 7))
    ∷ state 0 (plain None) (plain (Some 7)) ∷ []

right_has_lied_is : rounds 1 1 0 right_lies_start ≡ right_has_lied
unfolding rounds
right_has_lied_is = refl

-- the left half showed 0
abbrev zero_is_seen : List State
zero_is_seen =
    state 1 (plain None) (plain (Some 0))
    ∷ state 1 (marked None) (plain (Some 0))
    ∷ state 0 (marked None) (plain (Some 0))
    ∷ state 0 (plain (Some 7)) (plain (Some 0)) ∷ []

zero_is_seen_is : rounds 1 1 1 right_has_lied ≡ zero_is_seen
unfolding rounds
zero_is_seen_is = refl

abbrev trust_begins : List State
trust_begins =
    state 2 (marked (Some 7)) (marked (Some 1))
    ∷ state 2 (marked None) (marked (Some 1))
    ∷ state 0 (plain None) (marked (Some 1))
    ∷ state 0 (marked (Some 0)) (marked (Some 1)) ∷ []

trust_begins_is : rounds 1 1 2 zero_is_seen ≡ trust_begins
unfolding rounds
trust_begins_is = refl

-- all see its share begin, and trust it
abbrev share_begins : List State
share_begins =
    state 6 (marked None) (marked (Some 5))
    ∷ state 0 (marked (Some 1)) (marked (Some 5))
    ∷ state 0 (marked (Some 1)) (marked (Some 5))
    ∷ state 0 (marked None) (marked (Some 5)) ∷ []

share_begins_is : rounds 1 4 3 trust_begins ≡ share_begins
unfolding rounds
share_begins_is = refl

-- and obey its king in three rounds
abbrev right_is_locked : List State
right_is_locked =
    state 1 (marked (Some 1)) (plain (Some 0))
    ∷ state 0 (marked (Some 1)) (plain (Some 0))
    ∷ state 0 (marked (Some 1)) (plain (Some 0))
    ∷ state 0 (marked (Some 1)) (plain (Some 0)) ∷ []

right_is_locked_is : rounds 1 3 7 share_begins ≡ right_is_locked
unfolding rounds
right_is_locked_is = refl
