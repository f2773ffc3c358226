-- The step of a node in a group, by the stretch of what is heard that is its own.
use Rattle.std.proofs.Common.{◌≡◌, ℕ, ◌+◌, ◌-◌, ◌*◌, ◌<◌, ◌≤◌, Bool, true, false, List}
use Rattle.std.proofs.Common.{length, map, get_or, Option, Some, None, refl, sym, ap, ap₂, ◌∙◌}
use Rattle.std.proofs.Common.{arith}
use Rattle.std.specs.Prelude.{nat_lt, if◌then◌else◌}
use Rattle.std.proofs.lemmas.List.{drop-drop, get_or-map}
use Rattle.sync_types.specs.States.{State, zero_state}
use Rattle.construction.specs.PhaseKing.{up}
use Rattle.construction.specs.Steps.{state_of}
use Rattle.halving_plan.specs.Halves.{Halves, left_period, right_period}
use Rattle.halving_plan.specs.LevelStates.{LevelState, level_state_after}
use Rattle.halving_plan.specs.Trees.{Tree, tree_nodes}
use Rattle.halving_plan.specs.Trees.{left_part, right_part}
use Rattle.halving_plan.specs.Registers.{level_state_of, inner, with_level_state}
use Rattle.halving_plan.specs.Steps.{shown_in, half_of, new_level_state, step_in}
use Rattle.halving_plan.specs.Groups.{HalvingGroup, IsGroup, tree_in, left_of, right_of, half_in}
use Rattle.halving_plan.specs.Groups.{sizes_of}
use Rattle.halving_plan.proofs.Numbers.{both_parts}
use Rattle.halving_plan.proofs.Trees.{split_of, nodes_of_half}
use Rattle.halving_plan.proofs.Halves.{left_tree, right_tree, half_tree, halves_are}
use Rattle.halving_plan.proofs.Halves.{lt_shifted}
use Rattle.halving_plan.specs.GroupStates.{below, section, stretch}
use Rattle.halving_plan.specs.GroupHearing.{level_state_in, outputs_in, level_state_heard}
use Rattle.halving_plan.proofs.Lists.{map_map, map_same, section_in, section-map, get_or-section}
use Rattle.halving_plan.proofs.Lists.{length-section}

-- ---- a half of a stretch is a stretch

pub inner_below : (r : ℕ) (s : State) → inner (below r s) ≡ below (r + 2) s
inner_below r s = ap (λ rs. record { x = s.x; registers = rs }) (drop-drop 2 r s.registers)

pub half_stretch : (group half : HalvingGroup) (heard : List State) (a : ℕ)
    → half.first ≡ group.first + a → half.register ≡ group.register + 2
    → a + half.nodes ≤ group.nodes
    → half_of a half.nodes (stretch group heard) ≡ stretch half heard
half_stretch group half heard a first register within =
    let n = half.nodes in
    let r = group.register in
    let s = section group.first group.nodes heard in
    ap (section a n) (map_map inner (below r) s
    ∙ map_same (λ x. inner (below r x)) (below (r + 2)) (inner_below r) s)
    ∙ (section-map (below (r + 2)) a n s
    ∙ (ap (map (below (r + 2))) (section_in a n group.nodes group.first heard within)
    ∙ (ap (λ q. map (below q) (section (group.first + a) n heard)) (sym register)
    ∙ ap (λ f. map (below half.register) (section f n heard)) (sym first))))

-- the state of a node of the group
pub state_in_stretch : (group : HalvingGroup) (v : ℕ) (heard : List State)
    → group.first ≤ v → v < group.first + group.nodes → group.first + group.nodes ≤ length heard
    → state_of (stretch group heard) (v - group.first) ≡ below group.register (state_of heard v)
state_in_stretch group v heard from to within =
    let i = v - group.first in
    let at : group.first + i ≡ v = omega arith in
    let lt : i < group.nodes = omega arith in
    let size = length-section group.first group.nodes heard within in
    get_or-map (below group.register) (section group.first group.nodes heard) i (zero_state 0)
    (zero_state 0) (omega (arith, size, lt))
    ∙ ap (below group.register) (get_or-section group.first group.nodes i heard (zero_state 0) lt
    ∙ ap (λ j. get_or heard j (zero_state 0)) at)

-- ---- the level state

-- what the halves and the group show, by any sizes
abbrev level_state_by : (left right : Tree) (modulus v : ℕ) (group : List State)
    (halves : Halves) (n m : ℕ)
    → LevelState
level_state_by left right modulus v group halves n m =
    level_state_after halves (up modulus) (level_state_of (state_of group v))
    (map (shown_in left) (half_of 0 n group)) (map (shown_in right) (half_of n m group))
    (map level_state_of group)

outputs_are : (group half : HalvingGroup) (tree : Tree) (heard : List State) (a : ℕ)
    → half.first ≡ group.first + a → half.register ≡ group.register + 2
    → a + half.nodes ≤ group.nodes → tree ≡ tree_in half
    → map (shown_in tree) (half_of a half.nodes (stretch group heard)) ≡ outputs_in half heard
outputs_are group half tree heard a first register within e =
    ap₂ (λ t s. map (shown_in t) s) e (half_stretch group half heard a first register within)
    ∙ map_map (shown_in (tree_in half)) (below half.register)
    (section half.first half.nodes heard)

pub new_level_state_is : (group : HalvingGroup) (v : ℕ) (heard : List State) → IsGroup group
    → 0 < group.faults
    → group.first ≤ v → v < group.first + group.nodes → group.first + group.nodes ≤ length heard
    → new_level_state (left_tree group.faults) (right_tree group.faults)
    (group.nodes - (3 * group.faults + 1)) group.modulus (v - group.first) (stretch group heard)
    ≡ level_state_heard group v heard
new_level_state_is group v heard is some from to within =
    let f = group.faults in
    let left = left_tree f in
    let right = right_tree f in
    let all = stretch group heard in
    let u = v - group.first in
    let n = 3 * left_part f + 1 in
    let m = 3 * right_part f + 1 in
    let quorum = is.quorum in
    let both = both_parts f some in
    ap (λ h. level_state_by left right group.modulus u all h (tree_nodes left)
    (tree_nodes right)) (halves_are group is some)
    ∙ (ap₂ (level_state_by left right group.modulus u all (sizes_of group))
    (nodes_of_half (left_part f)) (nodes_of_half (right_part f))
    ∙ (ap (λ s. level_state_after (sizes_of group) (up group.modulus) (level_state_of s)
    (map (shown_in left) (half_of 0 n all)) (map (shown_in right) (half_of n m all))
    (map level_state_of all)) (state_in_stretch group v heard from to within)
    ∙ (ap (λ o. level_state_after (sizes_of group) (up group.modulus)
    (level_state_in group (state_of heard v)) o
    (map (shown_in right) (half_of n m all)) (map level_state_of all))
    (outputs_are group (left_of group) left heard 0 (omega arith) refl (omega arith)
    (sym (half_tree (left_part f))))
    ∙ (ap (λ o. level_state_after (sizes_of group) (up group.modulus)
    (level_state_in group (state_of heard v))
    (outputs_in (left_of group) heard) o (map level_state_of all))
    (outputs_are group (right_of group) right heard n refl refl (omega arith)
    (sym (half_tree (right_part f))))
    ∙ ap (level_state_after (sizes_of group) (up group.modulus)
    (level_state_in group (state_of heard v))
    (outputs_in (left_of group) heard) (outputs_in (right_of group) heard))
    (map_map level_state_of (below group.register)
    (section group.first group.nodes heard))))))

-- ---- the step

-- the step of node v in a group
abbrev pub step_by : HalvingGroup → (v : ℕ) → List State → State
step_by group v heard =
    step_in (tree_in group) group.modulus (v - group.first) (stretch group heard)

-- and in the half in which it is, if any
abbrev pub step_in_half : Option HalvingGroup → (v : ℕ) → List State → State
step_in_half None v heard = zero_state 0
step_in_half (Some half) v heard = step_by half v heard

-- the step in a half of a stretch
half_step : (group half : HalvingGroup) (tree : Tree) (modulus v w a : ℕ) (heard : List State)
    → half.first ≡ group.first + a → half.register ≡ group.register + 2
    → a + half.nodes ≤ group.nodes → tree ≡ tree_in half → modulus ≡ half.modulus
    → w ≡ v - half.first
    → step_in tree modulus w (half_of a half.nodes (stretch group heard)) ≡ step_by half v heard
half_step group half tree modulus v w a heard first register within t c e =
    ap (λ k. step_in k modulus w (half_of a half.nodes (stretch group heard))) t
    ∙ (ap (λ k. step_in (tree_in half) k w (half_of a half.nodes (stretch group heard))) c
    ∙ (ap (λ k. step_in (tree_in half) half.modulus k (half_of a half.nodes (stretch group heard)))
    e
    ∙ ap (step_in (tree_in half) half.modulus (v - half.first))
    (half_stretch group half heard a first register within)))

chosen : (b c : Bool) (left right : HalvingGroup) (v : ℕ) (heard : List State)
    → (if b then step_by left v heard else if c then step_by right v heard else zero_state 0)
    ≡ step_in_half (if b then Some left else if c then Some right else None) v heard
chosen true c left right v heard = refl
chosen false true left right v heard = refl
chosen false false left right v heard = refl

abbrev split_step : (left right : Tree) (spares modulus u : ℕ) (all : List State)
    (halves : Halves) (n m : ℕ)
    → State
split_step left right spares modulus u all halves n m =
    with_level_state (new_level_state left right spares modulus u all)
    (if nat_lt u n then step_in left (left_period halves) u (half_of 0 n all)
    else if nat_lt u (n + m) then step_in right (right_period halves) (u - n) (half_of n m all)
    else zero_state 0)

-- A node steps in its group, and in the half in which it is, each by the stretch that is heard of
-- it.
pub steps_by_stretches : (group : HalvingGroup) (v : ℕ) (heard : List State) → IsGroup group
    → 0 < group.faults → group.first ≤ v → v < group.first + group.nodes
    → group.first + group.nodes ≤ length heard
    → step_by group v heard
    ≡ with_level_state (level_state_heard group v heard) (step_in_half (half_in group v) v heard)
steps_by_stretches group v heard is some from to within =
    let f = group.faults in
    let left = left_tree f in
    let right = right_tree f in
    let spares = group.nodes - (3 * f + 1) in
    let all = stretch group heard in
    let u = v - group.first in
    let c = group.modulus in
    let halves = sizes_of group in
    let n = 3 * left_part f + 1 in
    let m = 3 * right_part f + 1 in
    let quorum = is.quorum in
    let both = both_parts f some in
    let l = half_step group (left_of group) left (left_period halves) v u 0 heard (omega arith) refl
    (omega arith) (sym (half_tree (left_part f))) refl refl in
    let r = half_step group (right_of group) right (right_period halves) v (u - n) n heard refl refl
    (omega arith) (sym (half_tree (right_part f))) refl (omega arith) in
    let level_state = level_state_heard group v heard in
    ap (λ t. step_in t c u all) (split_of f spares some)
    ∙ (ap (λ h. split_step left right spares c u all h (tree_nodes left) (tree_nodes right))
    (halves_are group is some)
    ∙ (ap₂ (split_step left right spares c u all halves) (nodes_of_half (left_part f))
    (nodes_of_half (right_part f))
    ∙ (ap₂ (λ p s. with_level_state p
    (if nat_lt u n then s else if nat_lt u (n + m) then step_in right (right_period halves) (u - n)
    (half_of n m all) else zero_state 0)) (new_level_state_is group v heard is some from to within)
    l
    ∙ (ap (λ s. with_level_state level_state (if nat_lt u n then step_by (left_of group) v heard
    else if nat_lt u (n + m) then s else zero_state 0)) r
    ∙ (ap₂ (λ a b. with_level_state level_state (if a then step_by (left_of group) v heard
    else if b then step_by (right_of group) v heard else zero_state 0))
    (lt_shifted group.first v n from)
    (lt_shifted group.first v (n + m) from
    ∙ ap (nat_lt v) (omega arith))
    ∙ ap (with_level_state level_state) (chosen (nat_lt v (right_of group).first)
    (nat_lt v ((right_of group).first + (right_of group).nodes)) (left_of group) (right_of group) v
    heard))))))
