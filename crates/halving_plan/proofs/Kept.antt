-- What the fields of a plan's nodes give is what its machine says.
use Rattle.std.proofs.Common.{◌≡◌, ◌≢◌, ℕ, zero, suc, ◌<◌, List, length, get_or, Some, None, refl}
use Rattle.std.proofs.Common.{ap, ap₂, ◌∙◌, arith}
use Rattle.std.proofs.lemmas.List.Elements.{All-from_get_or}
use Rattle.std.proofs.lemmas.List.FromFn.{length-map-range_with_len, get_or-map-range_with_len}
use Rattle.sync_types.specs.States.{State, zero_state}
use Rattle.state_codec.specs.Shapes.{Fields}
use Rattle.state_codec.specs.Ranges.{InRange}
use Rattle.machines.specs.Machines.{AreFronts}
use Rattle.halving_plan.specs.Trees.{tree_nodes, tree_for}
use Rattle.halving_plan.specs.Steps.{tree_depth}
use Rattle.halving_plan.specs.Runs.{fields_in, all_fields, lock_of}
use Rattle.halving_plan.proofs.Ranges.{positive_fields}
use Rattle.halving_plan.proofs.States.{long, fields_most}
use Rattle.halving_plan.specs.Plans.{HalvingNumbers, IsAccepted, tree_of}
use Rattle.halving_plan.specs.Laws.{machine_in}
use Rattle.halving_plan.proofs.Sound.{nodes_are, accepted_are_sound}
use Rattle.halving_plan.specs.GroupStates.{CanHear, IsDeep}
use Rattle.halving_plan.specs.Kept.{IsValidHalvingMachine}

-- one node has no register that shows locks, and each other tree has the first one
pub lock_of_none : (f spares : ℕ) → f ≡ 0 → None ≡ lock_of (tree_for f spares)
lock_of_none zero spares is = refl
lock_of_none (suc f) spares is = absurd (omega (arith, is))

pub lock_of_some : (f spares : ℕ) → f ≢ 0 → Some 0 ≡ lock_of (tree_for f spares)
lock_of_some zero spares not = absurd (not refl)
lock_of_some (suc f) spares not = refl

-- a modulus for each register
pub all_long : (plan : HalvingNumbers) → IsAccepted plan → (v : ℕ)
    → length (all_fields (tree_of plan) plan.modulus v).moduli ≡ tree_depth (tree_of plan)
all_long plan is v =
    let two = is.least_modulus in
    let tree = tree_of plan in
    long (fields_in tree plan.modulus v) (tree_depth tree)
    ((positive_fields tree plan.modulus v (omega arith)).1) (fields_most tree plan.modulus v)

-- the fields that are made of a number's modulus and those of registers
pub same_fields : (plan : HalvingNumbers) (v base : ℕ) (moduli : List ℕ)
    → base ≡ (all_fields (tree_of plan) plan.modulus v).base
    → moduli ≡ (all_fields (tree_of plan) plan.modulus v).moduli
    → record { base = base; moduli = moduli } ≡ all_fields (tree_of plan) plan.modulus v
same_fields plan v base moduli b m =
    ap₂ (λ x (l : List ℕ). let f : Fields = record { base = x; moduli = l } in f) b m

module _ (plan : HalvingNumbers) (accepted : IsAccepted plan) (v : ℕ)
    (lt : v < tree_nodes (tree_of plan)) where
  pub node_is : v < plan.nodes
  node_is = omega (arith, nodes_are plan accepted, lt)

  pub state_deep : (s : State) → InRange (all_fields (tree_of plan) plan.modulus v) s
      → length s.registers ≡ tree_depth (tree_of plan)
  state_deep s range = range.depth ∙ (accepted_are_sound plan accepted).depth v lt

-- what may be heard
pub can_hear : (plan : HalvingNumbers) → IsAccepted plan → (heard : List State)
    → AreFronts (machine_in plan) heard → CanHear plan heard
can_hear plan accepted heard is = record {
  size = is.size ∙ nodes_are plan accepted;
  deep = All-from_get_or (IsDeep plan) heard (zero_state 0) (λ v lt.
      let node : v < tree_nodes (tree_of plan) = omega (arith, lt, is.size) in
      (is.fronts v node).deep);
}

module _ (plan : HalvingNumbers) (fields : List Fields) (kept : IsValidHalvingMachine plan fields) where
  pub long_fields : length fields ≡ plan.nodes
  long_fields = ap length kept.each
      ∙ length-map-range_with_len (all_fields (tree_of plan) plan.modulus) 0 plan.nodes

  pub index_is : (v : ℕ) → v < tree_nodes (tree_of plan) → v < length fields
  index_is v lt = let n = node_is plan kept.accepted v lt in omega (arith, long_fields)

  pub fields_are : (v : ℕ) → v < tree_nodes (tree_of plan) → (found : Fields)
      → found ≡ get_or fields v found → found ≡ all_fields (tree_of plan) plan.modulus v
  fields_are v lt found is =
      is ∙ ap (λ (l : List Fields). get_or l v found) kept.each
      ∙ get_or-map-range_with_len (all_fields (tree_of plan) plan.modulus) 0 plan.nodes v v found
      (node_is plan kept.accepted v lt) (omega arith)
