-- What steps give is a state of the node, whatever was heard.
use Rattle.std.proofs.Common.{◌≡◌, ℕ, zero, suc, ◌+◌, ◌-◌, ◌*◌, ◌<◌, ◌≤◌, max, Bool, true, false}
use Rattle.std.proofs.Common.{cond, List, [], ◌∷◌, length, get_or, replicate, Option, Some, None}
use Rattle.std.proofs.Common.{All, IfSome, refl, sym, ap, ◌∙◌, subst, subst₂, arith, mod-lt}
use Rattle.std.specs.Prelude.{nat_lt}
use Rattle.std.specs.Option.{option_map}
use Rattle.std.proofs.Math.Nat.{le-max_left, le-max_right}
use Rattle.std.proofs.lemmas.Bool.{cond_both}
use Rattle.std.proofs.lemmas.List.{length-append, length-replicate, get_or-drop}
use Rattle.std.proofs.lemmas.List.Elements.{All-nil, All-cons, All-get_or}
use Rattle.sync_types.specs.declared.states.Reg.{Reg}
use Rattle.sync_types.specs.States.{State, zero_state, zero_register, register_at}
use Rattle.construction.specs.PhaseKing.{up}
use Rattle.construction.specs.Steps.{state_of}
use Rattle.halving_plan.specs.Halves.{Halves, left_period}
use Rattle.halving_plan.specs.Halves.{right_period}
use Rattle.halving_plan.specs.LevelStates.{LevelState}
use Rattle.halving_plan.specs.Trees.{Tree, One, Split, tree_nodes, tree_height}
use Rattle.halving_plan.specs.Trees.{halves_of}
use Rattle.halving_plan.specs.Registers.{inner, with_level_state}
use Rattle.halving_plan.specs.Steps.{half_of, new_level_state, step_in}
use Rattle.halving_plan.specs.Steps.{tree_depth, step_of}
use Rattle.halving_plan.specs.Runs.{Fields, fields_in, HasFields, IsState}
use Rattle.halving_plan.proofs.LevelStates.{followed}

-- an incremented value is below the modulus
incremented_below : (c : ℕ) → 0 < c → (a : Option ℕ) → IfSome (option_map (up c) a) (λ x. x < c)
incremented_below c some None = tt
incremented_below c some (Some a) = mod-lt (a + 1) some

-- ---- fields

-- the state after a level state has the fields after the first two
pub has_inner : (a b : ℕ) (fields : Fields) (state : State)
    → HasFields (record fields { moduli = a ∷ b ∷ fields.moduli }) state
    → HasFields fields (inner state)
has_inner a b fields state has =
    let all : List ℕ = a ∷ b ∷ fields.moduli in record {
      x = has.x;
      values = λ i lt. subst₂ (λ (r : Reg) most. IfSome r.a (λ n. n < most))
          (sym (get_or-drop 2 state.registers i zero_register)) (sym (get_or-drop 2 all i 0))
          (has.values (2 + i) (omega arith));
      lacking = λ i le. get_or-drop 2 state.registers i zero_register
          ∙ has.lacking (2 + i) (omega arith);
    }

-- and with a level state in range before it, it has two more
pub has_level_state : (modulus period : ℕ) (level_state : LevelState) (fields : Fields)
    (state : State) (further : List Reg)
    → IfSome level_state.register.a (λ a. a < modulus) → level_state.seen < period
    → HasFields fields (followed state further)
    → HasFields (record fields { moduli = modulus ∷ period ∷ fields.moduli })
    (followed (with_level_state level_state state) further)
has_level_state modulus period level_state fields state further below seen has = record {
  x = has.x;
  values = values;
  lacking = lacking;
}
  where
    moduli : List ℕ
    moduli = modulus ∷ period ∷ fields.moduli

    values : (i : ℕ) → i < length moduli
        → IfSome (register_at i (followed (with_level_state level_state state) further)).a
        (λ a. a < get_or moduli i 0)
    values zero lt = below
    values (suc zero) lt = seen
    values (suc (suc i)) lt = has.values i (omega arith)

    lacking : (i : ℕ) → length moduli ≤ i
        → register_at i (followed (with_level_state level_state state) further) ≡ zero_register
    lacking zero le = absurd (omega arith)
    lacking (suc zero) le = absurd (omega arith)
    lacking (suc (suc i)) le = has.lacking i (omega arith)

-- zero registers
abbrev pub zeros : ℕ → List Reg
zeros count = replicate count zero_register

zero_at : (count i : ℕ) → get_or (zeros count) i zero_register ≡ zero_register
zero_at zero i = refl
zero_at (suc count) zero = refl
zero_at (suc count) (suc i) = zero_at count i

-- a number alone, followed by zero registers
number_alone : (base x count : ℕ) → x < base
    → HasFields (record { base = base; moduli = [] })
    (record { x = x; registers = zeros count })
number_alone base x count lt = record {
  x = lt;
  values = λ i ilt. absurd (omega arith);
  lacking = λ i le. zero_at count i;
}

has_chosen : (b : Bool) (these those : Fields) (s t : State) (further : List Reg)
    → HasFields these (followed s further) → HasFields those (followed t further)
    → HasFields (cond b these those) (followed (cond b s t) further)
has_chosen true these those s t further here there = here
has_chosen false these those s t further here there = there

-- ---- the step

-- a step gives the fields that node v has, and then zero
pub step_has_fields : (tree : Tree) (modulus v : ℕ) (group : List State) (count : ℕ)
    → 0 < modulus
    → HasFields (fields_in tree modulus v) (followed (step_in tree modulus v group) (zeros count))
step_has_fields One modulus v group count some =
    number_alone modulus (up modulus (state_of group v).x) count (mod-lt _ some)
step_has_fields (Split left right spares) modulus v group count some =
    let halves : Halves = halves_of left right spares in
    let n : ℕ = tree_nodes left in
    let m : ℕ = tree_nodes right in
    let none : Fields = record { base = 1; moduli = [] } in
    let left_fields : Fields = fields_in left (left_period halves) v in
    let right_fields : Fields = fields_in right (right_period halves) (v - n) in
    let in_left : State = step_in left (left_period halves) v (half_of 0 n group) in
    let in_right : State = step_in right (right_period halves) (v - n) (half_of n m group) in
    has_level_state modulus (left_period halves) (new_level_state left right spares modulus v group)
    (cond (nat_lt v n) left_fields (cond (nat_lt v (n + m)) right_fields none))
    (cond (nat_lt v n) in_left (cond (nat_lt v (n + m)) in_right (zero_state 0))) (zeros count)
    (incremented_below modulus some _) (mod-lt _ (omega arith))
    (has_chosen (nat_lt v n) left_fields (cond (nat_lt v (n + m)) right_fields none) in_left
    (cond (nat_lt v (n + m)) in_right (zero_state 0)) (zeros count)
    (step_has_fields left (left_period halves) v (half_of 0 n group) count (omega arith))
    (has_chosen (nat_lt v (n + m)) right_fields none in_right (zero_state 0) (zeros count)
    (step_has_fields right (right_period halves) (v - n) (half_of n m group) count (omega arith))
    (number_alone 1 0 count (omega arith))))

-- a step gives no more registers than the tree has
pub depth_most : (tree : Tree) (modulus v : ℕ) (group : List State)
    → length (step_in tree modulus v group).registers ≤ tree_depth tree
depth_most One modulus v group = omega arith
depth_most (Split left right spares) modulus v group =
    let halves : Halves = halves_of left right spares in
    let n : ℕ = tree_nodes left in
    let m : ℕ = tree_nodes right in
    let in_left : State = step_in left (left_period halves) v (half_of 0 n group) in
    let in_right : State = step_in right (right_period halves) (v - n) (half_of n m group) in
    let rest : State =
    cond (nat_lt v n) in_left (cond (nat_lt v (n + m)) in_right (zero_state 0)) in
    let above : ℕ = max (tree_height left) (tree_height right) in
    let most : length rest.registers ≤ 2 * above =
    cond_both (nat_lt v n) in_left (cond (nat_lt v (n + m)) in_right (zero_state 0))
    (λ s. length s.registers ≤ 2 * above)
    (λ e. omega (
      arith,
      depth_most left (left_period halves) v (half_of 0 n group),
      le-max_left (tree_height left) (tree_height right),
    ))
    (λ e. cond_both (nat_lt v (n + m)) in_right (zero_state 0) (λ s. length s.registers ≤ 2 * above)
    (λ e. omega (
      arith,
      depth_most right (right_period halves) (v - n) (half_of n m group),
      le-max_right (tree_height left) (tree_height right),
    ))
    (λ e. omega arith)) in
    omega arith

-- the step of a node gives a state of it
pub step_is_state : (tree : Tree) (modulus v : ℕ) (heard : List State) → 0 < modulus
    → IsState tree modulus v (step_of tree modulus v heard)
step_is_state tree modulus v heard some =
    let s : State = step_in tree modulus v heard in
    let most = depth_most tree modulus v heard in
    let more : ℕ = tree_depth tree - length s.registers in record {
      depth = length-append s.registers (replicate more zero_register)
          ∙ (ap (λ k. length s.registers + k) (length-replicate more zero_register) ∙ omega arith);
      fields = step_has_fields tree modulus v heard more some;
    }

-- ---- the zero state

-- if each modulus is at least one, zero is in range
zero_has : (fields : Fields) (count : ℕ) → 0 < fields.base
    → All (λ modulus. 0 < modulus) fields.moduli
    → HasFields fields (zero_state count)
zero_has fields count some all = record {
  x = some;
  values = λ i lt. subst (λ (r : Reg). IfSome r.a (λ a. a < get_or fields.moduli i 0))
      (sym (zero_at count i))
      (All-get_or (λ modulus. 0 < modulus) fields.moduli i 0 lt all);
  lacking = λ i le. zero_at count i;
}

-- at least one
abbrev pub ArePositive : Fields → Type 0
ArePositive fields = (0 < fields.base) × All (λ modulus. 0 < modulus) fields.moduli

positive_chosen : (b : Bool) (these those : Fields) → ArePositive these → ArePositive those
    → ArePositive (cond b these those)
positive_chosen true these those here there = here
positive_chosen false these those here there = there

positive_over : (modulus period : ℕ) (below : Fields) → 0 < modulus → 0 < period
    → ArePositive below
    → ArePositive (record { base = below.base; moduli = modulus ∷ period ∷ below.moduli })
positive_over modulus period below some more positive = (
  positive.0,
  All-cons (λ modulus. 0 < modulus) modulus (period ∷ below.moduli) some
      (All-cons (λ modulus. 0 < modulus) period below.moduli more positive.1),
)

pub positive_fields : (tree : Tree) (modulus v : ℕ) → 0 < modulus
    → ArePositive (fields_in tree modulus v)
positive_fields One modulus v some = (some, All-nil (λ modulus. 0 < modulus))
positive_fields (Split left right spares) modulus v some =
    let halves : Halves = halves_of left right spares in
    let n : ℕ = tree_nodes left in
    let m : ℕ = tree_nodes right in
    let none : Fields = record { base = 1; moduli = [] } in
    let left_fields : Fields = fields_in left (left_period halves) v in
    let right_fields : Fields = fields_in right (right_period halves) (v - n) in
    positive_over modulus (left_period halves)
    (cond (nat_lt v n) left_fields (cond (nat_lt v (n + m)) right_fields none))
    some (omega arith)
    (positive_chosen (nat_lt v n) left_fields (cond (nat_lt v (n + m)) right_fields none)
    (positive_fields left (left_period halves) v (omega arith))
    (positive_chosen (nat_lt v (n + m)) right_fields none
    (positive_fields right (right_period halves) (v - n) (omega arith))
    (omega arith, All-nil (λ modulus. 0 < modulus))))

-- the zero state is a state of each node
pub zero_is_state : (tree : Tree) (modulus v : ℕ) → 0 < modulus
    → IsState tree modulus v (zero_state (tree_depth tree))
zero_is_state tree modulus v some =
    let positive = positive_fields tree modulus v some in record {
      depth = length-replicate (tree_depth tree) zero_register;
      fields = zero_has (fields_in tree modulus v) (tree_depth tree) positive.0 positive.1;
    }
