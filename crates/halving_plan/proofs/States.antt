-- A node's states in a tree are those of all its fields, with a modulus for each register.
use Rattle.std.proofs.Common.{◌≡◌, ℕ, zero, suc, ◌+◌, ◌-◌, ◌*◌, ◌<◌, ◌≤◌, max, true, cond, inl, inr}
use Rattle.std.proofs.Common.{List, []}
use Rattle.std.proofs.Common.{◌++◌, length, get_or, replicate, All, refl, sym, ap, ◌∙◌, subst}
use Rattle.std.proofs.Common.{arith}
use Rattle.std.specs.Prelude.{nat_lt, not, ◌==◌}
use Rattle.std.proofs.Math.Nat.{le-max_left, le-max_right}
use Rattle.std.proofs.lemmas.Bool.{cases_lt, cond_both, ne_eqb}
use Rattle.std.proofs.lemmas.List.{length-append, get_or_append_left}
use Rattle.std.proofs.lemmas.List.{get_or-append_right, get_or_past}
use Rattle.std.proofs.lemmas.List.Elements.{All-get_or}
use Rattle.sync_types.specs.States.{State, zero_register, register_at}
use Rattle.construction.specs.Runs.{IsRegister}
use Rattle.state_codec.specs.Ranges.{IsField, InRange}
use Rattle.halving_plan.specs.Halves.{Halves, left_period, right_period}
use Rattle.halving_plan.specs.Trees.{Tree, One, Split, tree_nodes, tree_height}
use Rattle.halving_plan.specs.Trees.{halves_of}
use Rattle.halving_plan.specs.Steps.{tree_depth}
use Rattle.halving_plan.specs.Runs.{Fields, fields_in, all_fields, HasFields, IsState}
use Rattle.halving_plan.proofs.Ranges.{positive_fields}

-- ---- a node has no more fields than a state has registers

pub fields_most : (tree : Tree) (modulus v : ℕ)
    → length (fields_in tree modulus v).moduli ≤ tree_depth tree
fields_most One modulus v = omega arith
fields_most (Split left right spares) modulus v =
    let halves : Halves = halves_of left right spares in
    let n : ℕ = tree_nodes left in
    let m : ℕ = tree_nodes right in
    let none : Fields = record { base = 1; moduli = [] } in
    let in_left : Fields = fields_in left (left_period halves) v in
    let in_right : Fields = fields_in right (right_period halves) (v - n) in
    let rest : Fields = cond (nat_lt v n) in_left (cond (nat_lt v (n + m)) in_right none) in
    let above : ℕ = max (tree_height left) (tree_height right) in
    let most : length rest.moduli ≤ 2 * above =
    cond_both (nat_lt v n) in_left (cond (nat_lt v (n + m)) in_right none)
    (λ s. length s.moduli ≤ 2 * above)
    (λ e. omega (
      arith,
      fields_most left (left_period halves) v,
      le-max_left (tree_height left) (tree_height right),
    ))
    (λ e. cond_both (nat_lt v (n + m)) in_right none (λ s. length s.moduli ≤ 2 * above)
    (λ e. omega (
      arith,
      fields_most right (right_period halves) (v - n),
      le-max_right (tree_height left) (tree_height right),
    ))
    (λ e. omega arith)) in
    omega arith

-- ---- the states are those of all fields

some_modulus : (m : ℕ) → 0 < m → not (m == 0) ≡ true
some_modulus m some = ap not (ne_eqb m 0 (λ e. absurd (omega arith)))

-- modulus 0 is that of a register that is lacking
abbrev lacking : ℕ → List ℕ
lacking count = replicate count 0

no_modulus : (n i d : ℕ) → d ≡ 0 → get_or (lacking n) i d ≡ d
no_modulus zero i d e = refl
no_modulus (suc n) zero d e = sym e
no_modulus (suc n) (suc i) d e = no_modulus n i d e

length_lacking : (n : ℕ) → length (lacking n) ≡ n
length_lacking zero = refl
length_lacking (suc n) = ap suc (length_lacking n)

module _ (fields : Fields) (d : ℕ) (some : All (λ modulus. 0 < modulus) fields.moduli)
    (fit : length fields.moduli ≤ d) where
  abbrev moduli : List ℕ
  moduli = fields.moduli ++ lacking (d - length fields.moduli)

  abbrev whole : Fields
  whole = record { base = fields.base; moduli = moduli }

  pub long : length moduli ≡ d
  long = omega (
    arith,
    length-append fields.moduli (lacking (d - length fields.moduli)),
    length_lacking (d - length fields.moduli),
    fit,
  )

  within : (i : ℕ) → i < length fields.moduli → get_or moduli i 0 ≡ get_or fields.moduli i 0
  within i lt =
      get_or_append_left fields.moduli (lacking (d - length fields.moduli)) 0 i lt

  after : (i : ℕ) → length fields.moduli ≤ i → get_or moduli i 0 ≡ 0
  after i le =
      get_or-append_right fields.moduli (lacking (d - length fields.moduli))
      (length fields.moduli) i 0 refl le
      ∙ no_modulus (d - length fields.moduli) (i - length fields.moduli) 0 refl

  module _ (s : State) where
    field_is : (i : ℕ) → HasFields fields s → IsField (get_or moduli i 0) (register_at i s)
    field_is i has = elim (cases_lt i (length fields.moduli)) [
      | inl lt ↦
          let m : ℕ = get_or fields.moduli i 0 in
          subst (λ n. IsField n (register_at i s)) (sym (within i lt))
          (subst (λ t. IsRegister t m (register_at i s))
          (sym (some_modulus m (All-get_or (λ modulus. 0 < modulus) fields.moduli i 0 lt some)))
          (has.values i lt))
      | inr le ↦
          subst (λ n. IsField n (register_at i s)) (sym (after i (omega arith)))
          (has.lacking i (omega arith))
    ]

    pub in_range : length s.registers ≡ d → HasFields fields s → InRange whole s
    in_range deep has = record {
      depth = deep ∙ sym long;
      x = has.x;
      values = λ i lt. field_is i has;
    }

    lacks : InRange whole s → (i : ℕ) → length fields.moduli ≤ i → register_at i s ≡ zero_register
    lacks range i le = elim (cases_lt i d) [
      | inl lt ↦
          subst (λ n. IsField n (register_at i s)) (after i le)
          (range.values i (omega (arith, long)))
      | inr over ↦
          let deep = range.depth in
          get_or_past s.registers i zero_register (omega (arith, deep, long))
    ]

    pub has_fields : InRange whole s → HasFields fields s
    has_fields range = record {
      x = range.x;
      values = λ i lt.
          let m : ℕ = get_or fields.moduli i 0 in
          subst (λ t. IsRegister t m (register_at i s))
          (some_modulus m (All-get_or (λ modulus. 0 < modulus) fields.moduli i 0 lt some))
          (subst (λ n. IsField n (register_at i s)) (within i lt)
          (range.values i (omega (arith, long))));
      lacking = lacks range;
    }

-- the words of trees and those of all fields
module _ (tree : Tree) (modulus : ℕ) (some : 0 < modulus) (v : ℕ) (s : State) where
  pub range_of_state : IsState tree modulus v s → InRange (all_fields tree modulus v) s
  range_of_state is =
      in_range (fields_in tree modulus v) (tree_depth tree)
      ((positive_fields tree modulus v some).1) (fields_most tree modulus v) s is.depth is.fields

  pub state_of_range : InRange (all_fields tree modulus v) s → IsState tree modulus v s
  state_of_range range =
      let fields : Fields = fields_in tree modulus v in
      let all = (positive_fields tree modulus v some).1 in
      let fit = fields_most tree modulus v in record {
        depth = range.depth ∙ long fields (tree_depth tree) all fit;
        fields = has_fields fields (tree_depth tree) all fit s range;
      }
