-- Registers after a tree's own change neither what a state shows nor the step.
use Rattle.std.proofs.Common.{◌≡◌, ℕ, zero, suc, ◌+◌, ◌-◌, ◌<◌, ◌≤◌, cond, List, []}
use Rattle.std.proofs.Common.{◌∷◌, map, take, drop, unwrap_or, refl, sym, ap, ap₂}
use Rattle.std.proofs.Common.{◌∙◌}
use Rattle.std.proofs.Common.{arith}
use Rattle.std.specs.Prelude.{nat_lt}
use Rattle.std.proofs.Math.Seq.{take-nil}
use Rattle.std.proofs.Math.Nat.{le-max_left, le-max_right}
use Rattle.std.proofs.lemmas.List.{get_or-take, drop-take, take-map, drop-map}
use Rattle.sync_types.specs.declared.states.Reg.{Reg}
use Rattle.sync_types.specs.States.{State, zero_state, zero_register, register_at}
use Rattle.construction.specs.PhaseKing.{up}
use Rattle.construction.specs.Steps.{state_of}
use Rattle.counter_core.specs.Meanings.{cut}
use Rattle.machines.specs.Laws.{IgnoresFurther}
use Rattle.halving_plan.specs.Halves.{Halves, left_period, right_period}
use Rattle.halving_plan.specs.LevelStates.{LevelState, level_state_after}
use Rattle.halving_plan.specs.Trees.{Tree, One, Split, tree_nodes, tree_height}
use Rattle.halving_plan.specs.Trees.{halves_of}
use Rattle.halving_plan.specs.Registers.{level_state_of, inner, with_level_state}
use Rattle.halving_plan.specs.Steps.{shown_in, half_of, new_level_state, step_in}
use Rattle.halving_plan.specs.Steps.{tree_depth, filled}
use Rattle.halving_plan.specs.Runs.{machine_of}

-- ---- lists of states

map_map : {X Y Z : Type 0} (f : Y → Z) (g : X → Y) (xs : List X)
    → map f (map g xs) ≡ map (λ x. f (g x)) xs
map_map f g [] = refl
map_map f g (x ∷ xs) = ap (λ ys. f (g x) ∷ ys) (map_map f g xs)

map_same : {X Y : Type 0} (f g : X → Y) (same : (x : X) → f x ≡ g x) (xs : List X)
    → map f xs ≡ map g xs
map_same f g same [] = refl
map_same f g same (x ∷ xs) = ap₂ (λ y ys. y ∷ ys) (same x) (map_same f g same xs)

state_of_cut : (d : ℕ) (group : List State) (v : ℕ)
    → state_of (map (cut d) group) v ≡ cut d (state_of group v)
state_of_cut d [] v = ap (λ (rs : List Reg). record { x = 0; registers = rs }) (sym (take-nil d))
state_of_cut d (s ∷ group) zero = refl
state_of_cut d (s ∷ group) (suc v) = state_of_cut d group v

-- ---- a state of a level

register_cut : (d i : ℕ) (s : State) → i < d → register_at i (cut d s) ≡ register_at i s
register_cut d i s lt = get_or-take d s.registers i zero_register lt

-- two registers more
abbrev more : ℕ → ℕ
more d = suc (suc d)

inner_cut : (d : ℕ) (s : State) → inner (cut (more d) s) ≡ cut d (inner s)
inner_cut d s =
    let two : more d ≡ 2 + d = omega arith in
    ap (λ (rs : List Reg). record { x = s.x; registers = rs })
    (ap (λ k. drop 2 (take k s.registers)) two ∙ drop-take 2 d s.registers)

abbrev level_state_by : (king left : Reg) → LevelState
level_state_by king left =
    record { register = king; seen = unwrap_or left.a 0; trusted = left.d }

level_state_cut : (d : ℕ) (s : State) → level_state_of (cut (more d) s) ≡ level_state_of s
level_state_cut d s =
    ap₂ level_state_by (register_cut (more d) 0 s (omega arith))
    (register_cut (more d) 1 s (omega arith))

shown_cut : (tree : Tree) (d : ℕ) (s : State) → tree_depth tree ≤ d
    → shown_in tree (cut d s) ≡ shown_in tree s
shown_cut One d s deep = refl
shown_cut (Split left right spares) d s deep =
    ap (λ (r : Reg). unwrap_or r.a 0) (register_cut d 0 s (omega arith))

half_cut : (d first nodes : ℕ) (group : List State)
    → half_of first nodes (map (cut (more d)) group) ≡ map (cut d) (half_of first nodes group)
half_cut d first nodes group =
    let states : List State = map inner group in
    ap (λ xs. take nodes (drop first xs))
    (map_map inner (cut (more d)) group
    ∙ map_same (λ s. inner (cut (more d) s)) (λ s. cut d (inner s)) (inner_cut d) group
    ∙ sym (map_map (cut d) inner group))
    ∙ (ap (take nodes) (drop-map (cut d) first states) ∙ take-map (cut d) nodes (drop first states))

outputs_cut : (tree : Tree) (d first nodes : ℕ) (group : List State) → tree_depth tree ≤ d
    → map (shown_in tree) (half_of first nodes (map (cut (more d)) group))
    ≡ map (shown_in tree) (half_of first nodes group)
outputs_cut tree d first nodes group deep =
    ap (map (shown_in tree)) (half_cut d first nodes group)
    ∙ (map_map (shown_in tree) (cut d) (half_of first nodes group)
    ∙ map_same (λ s. shown_in tree (cut d s)) (shown_in tree) (λ s. shown_cut tree d s deep)
    (half_of first nodes group))

-- ---- the step

-- what stands before the half, and the state in it
abbrev level_by : (left right : Tree) (spares modulus : ℕ) (own : LevelState)
    (outputs others : List ℕ) (states : List LevelState) → LevelState
level_by left right spares modulus own outputs others states =
    level_state_after (halves_of left right spares) (up modulus) own outputs others states

new_cut : (left right : Tree) (spares modulus v d : ℕ) (group : List State)
    → tree_depth left ≤ d → tree_depth right ≤ d
    → new_level_state left right spares modulus v (map (cut (more d)) group)
    ≡ new_level_state left right spares modulus v group
new_cut left right spares modulus v d group in_left in_right =
    let halves : Halves = halves_of left right spares in
    let n : ℕ = tree_nodes left in
    let m : ℕ = tree_nodes right in
    let all : List State = map (cut (more d)) group in
    let states : map level_state_of all ≡ map level_state_of group =
    map_map level_state_of (cut (more d)) group
    ∙ map_same (λ s. level_state_of (cut (more d) s)) level_state_of (level_state_cut d)
    group in
    let own : level_state_of (state_of all v) ≡ level_state_of (state_of group v) =
    ap level_state_of (state_of_cut (more d) group v)
    ∙ level_state_cut d (state_of group v) in
    ap (λ s. level_by left right spares modulus s (map (shown_in left) (half_of 0 n all))
    (map (shown_in right) (half_of n m all)) (map level_state_of all)) own
    ∙ (ap₂ (λ a b. level_by left right spares modulus (level_state_of (state_of group v)) a b
    (map level_state_of all)) (outputs_cut left d 0 n group in_left)
    (outputs_cut right d n m group in_right)
    ∙ ap (level_by left right spares modulus (level_state_of (state_of group v))
    (map (shown_in left) (half_of 0 n group)) (map (shown_in right) (half_of n m group))) states)

step_cut : (tree : Tree) (modulus v d : ℕ) (group : List State) → tree_depth tree ≤ d
    → step_in tree modulus v (map (cut d) group) ≡ step_in tree modulus v group
step_cut One modulus v d group deep =
    ap (λ (s : State). record { x = up modulus s.x; registers = [] }) (state_of_cut d group v)
step_cut (Split left right spares) modulus v zero group deep = absurd (omega arith)
step_cut (Split left right spares) modulus v (suc zero) group deep = absurd (omega arith)
step_cut (Split left right spares) modulus v (suc (suc d)) group deep =
    let halves : Halves = halves_of left right spares in
    let n : ℕ = tree_nodes left in
    let m : ℕ = tree_nodes right in
    let all : List State = map (cut (more d)) group in
    let in_left : tree_depth left ≤ d =
    omega (arith, le-max_left (tree_height left) (tree_height right)) in
    let in_right : tree_depth right ≤ d =
    omega (arith, le-max_right (tree_height left) (tree_height right)) in
    let new : List State → LevelState = new_level_state left right spares modulus v in
    let by : State → State → State = λ a b.
    cond (nat_lt v n) a (cond (nat_lt v (n + m)) b (zero_state 0)) in
    let l : step_in left (left_period halves) v (half_of 0 n all)
    ≡ step_in left (left_period halves) v (half_of 0 n group) =
    ap (step_in left (left_period halves) v) (half_cut d 0 n group)
    ∙ step_cut left (left_period halves) v d (half_of 0 n group) in_left in
    let r : step_in right (right_period halves) (v - n) (half_of n m all)
    ≡ step_in right (right_period halves) (v - n) (half_of n m group) =
    ap (step_in right (right_period halves) (v - n)) (half_cut d n m group)
    ∙ step_cut right (right_period halves) (v - n) d (half_of n m group) in_right in
    ap₂ (λ p s. with_level_state p s)
    (new_cut left right spares modulus v d group in_left in_right) (ap₂ by l r)

pub ignores_further : (tree : Tree) (modulus : ℕ) → IgnoresFurther (machine_of tree modulus)
ignores_further tree modulus = record {
  shows = λ v lt s. shown_cut tree (tree_depth tree) s (omega arith);
  step = λ v lt heard size. ap (filled (tree_depth tree))
      (step_cut tree modulus v (tree_depth tree) heard (omega arith));
}
