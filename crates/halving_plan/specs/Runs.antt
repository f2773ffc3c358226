-- The counter that a tree is, with the states of its nodes, and its locked configurations.
use Rattle.std.specs.Prelude.{◌≡◌, ⊤, ℕ, ◌+◌, ◌-◌, ◌<◌, ◌≤◌, nat_lt, if◌then◌else◌, List, [], ◌∷◌}
use Rattle.std.specs.Prelude.{◌++◌, length, replicate, Option, Some, None, IfSome, slice_index}
use Rattle.sync_types.specs.States.{State, zero_register, register_at}
use Rattle.construction.specs.Runs.{AllLocked}
use Rattle.halving_plan.specs.Halves.{left_period, right_period}
use Rattle.halving_plan.specs.Trees.{Tree, One, Split, tree_nodes, tree_faults}
use Rattle.halving_plan.specs.Trees.{tree_bound, halves_of}
use Rattle.halving_plan.specs.Steps.{shown_in, tree_depth, step_of}
pub use Rattle.state_codec.specs.Shapes.{Fields}
use Rattle.machines.specs.Machines.{Machine}

-- The fields of the state of node v, those of the top level first: two registers for each group
-- that it is in, and the number of the lowest one. A number that the node lacks has the modulus 1.
abbrev pub fields_in : (tree : Tree) (modulus v : ℕ) → Fields
fields_in One modulus v = record { base = modulus; moduli = [] }
fields_in (Split left right spares) modulus v =
    let halves = halves_of left right spares in
    let n = tree_nodes left in
    let below =
    if nat_lt v n then fields_in left (left_period halves) v
    else if nat_lt v (n + tree_nodes right) then fields_in right (right_period halves) (v - n)
    else record { base = 1; moduli = [] } in
    record { base = below.base; moduli = modulus ∷ left_period halves ∷ below.moduli }

-- the number and each finite value are below their moduli, and the registers that the node lacks
-- are zero
pub record HasFields (fields : Fields) (state : State) : Type 0 where
  pub x : state.x < fields.base
  pub values : (i : ℕ) → i < length fields.moduli
      → IfSome (register_at i state).a (λ a. a < slice_index fields.moduli i)
  pub lacking : (i : ℕ) → length fields.moduli ≤ i → register_at i state ≡ zero_register

-- a state of node v
pub record IsState (tree : Tree) (modulus v : ℕ) (state : State) : Type 0 where
  pub depth : length state.registers ≡ tree_depth tree
  pub fields : HasFields (fields_in tree modulus v) state

-- the same with a modulus for each register of a state: those that the node lacks have 0
abbrev pub all_fields : (tree : Tree) (modulus v : ℕ) → Fields
all_fields tree modulus v =
    let fields = fields_in tree modulus v in record {
      base = fields.base;
      moduli = fields.moduli ++ replicate (tree_depth tree - length fields.moduli) 0;
    }

-- the registers of all correct nodes, spares too, are one, finite and marked; one node is always
-- locked
abbrev pub IsLocked : (tree : Tree) (faulty : List ℕ) (config : List State) → Type 0
IsLocked One faulty config = ⊤
IsLocked (Split left right spares) faulty config =
    AllLocked 0 (tree_nodes (Split left right spares)) faulty config

-- the first register shows whether a configuration is locked; one node has none
abbrev pub lock_of : Tree → Option ℕ
lock_of One = None
lock_of (Split left right spares) = Some 0

-- the counter that a tree makes, with each modulus
abbrev pub machine_of : (tree : Tree) (modulus : ℕ) → Machine
machine_of tree modulus = record {
  nodes = tree_nodes tree;
  faults = tree_faults tree;
  modulus = modulus;
  bound = tree_bound tree;
  depth = tree_depth tree;
  fields = all_fields tree modulus;
  shows = λ v state. shown_in tree state;
  step = step_of tree modulus;
  lock = lock_of tree;
}
