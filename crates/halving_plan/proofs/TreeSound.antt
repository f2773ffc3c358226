-- The machine of a tree is sound, if its nodes are at most 256 and its modulus at most 2^40.
use Rattle.std.proofs.Common.{ℕ, ◌+◌, ◌-◌, ◌*◌, ◌^◌, ◌<◌, ◌≤◌, Bool, true, false}
use Rattle.std.proofs.Common.{cond, List, [], ◌∷◌, length, replicate, All}
use Rattle.std.proofs.Common.{arith}
use Rattle.std.specs.Prelude.{nat_lt}
use Rattle.std.proofs.lemmas.List.Elements.{All-nil, All-cons, All-append, All-replicate}
use Rattle.sync_types.specs.States.{State}
use Rattle.construction.specs.Runs.{configuration}
use Rattle.halving_plan.specs.Halves.{Halves, faults_of, left_period, right_period}
use Rattle.halving_plan.proofs.Settles as level
use Rattle.halving_plan.specs.Trees.{Tree, One, Split, tree_nodes}
use Rattle.halving_plan.specs.Trees.{halves_of}
use Rattle.halving_plan.specs.Steps.{tree_depth, step_of}
use Rattle.machines.specs.Machines.{LockedBy}
use Rattle.halving_plan.specs.Trees.{tree_bound}
use Rattle.halving_plan.specs.Runs.{Fields, fields_in, lock_of, IsLocked}
use Rattle.halving_plan.proofs.Numbers.{three_faults}
use Rattle.halving_plan.proofs.Ranges.{positive_fields, step_is_state}
use Rattle.halving_plan.specs.TreeLaws.{MachinesAreSound}
use Rattle.halving_plan.proofs.States.{fields_most, long, range_of_state, state_of_range}
use Rattle.halving_plan.proofs.Counting.{shown_below}
use Rattle.halving_plan.proofs.Further.{ignores_further}
use Rattle.halving_plan.proofs.RunLaws as laws

-- ---- nor is a modulus above 2^40

abbrev AreFew : Fields → Type 0
AreFew fields = (fields.base ≤ 2 ^ 40) × All (λ modulus. modulus ≤ 2 ^ 40) fields.moduli

few_chosen : (b : Bool) (these those : Fields) → AreFew these → AreFew those
    → AreFew (cond b these those)
few_chosen true these those here there = here
few_chosen false these those here there = there

few_fields : (tree : Tree) (modulus v : ℕ) → modulus ≤ 2 ^ 40 → tree_nodes tree ≤ 256
    → AreFew (fields_in tree modulus v)
few_fields One modulus v most few = (most, All-nil (λ modulus. modulus ≤ 2 ^ 40))
few_fields (Split left right spares) modulus v most few =
    let halves : Halves = halves_of left right spares in
    let n : ℕ = tree_nodes left in
    let m : ℕ = tree_nodes right in
    let none : Fields = record { base = 1; moduli = [] } in
    let in_left : Fields = fields_in left (left_period halves) v in
    let in_right : Fields = fields_in right (right_period halves) (v - n) in
    let few_faults : 3 * faults_of halves < 256 =
    omega (arith, three_faults (Split left right spares)) in
    let P : ℕ → Type 0 = λ modulus. modulus ≤ 2 ^ 40 in
    let below : AreFew (cond (nat_lt v n) in_left (cond (nat_lt v (n + m)) in_right none)) =
    few_chosen (nat_lt v n) in_left (cond (nat_lt v (n + m)) in_right none)
    (few_fields left (left_period halves) v (omega arith) (omega arith))
    (few_chosen (nat_lt v (n + m)) in_right none
    (few_fields right (right_period halves) (v - n) (omega arith) (omega arith))
    (omega arith, All-nil P)) in
    let rest : List ℕ =
    (cond (nat_lt v n) in_left (cond (nat_lt v (n + m)) in_right none)).moduli in (
      below.0,
      All-cons P modulus (left_period halves ∷ rest) most
          (All-cons P (left_period halves) rest (omega arith) below.1),
    )

-- ---- locks

locked_here : (tree : Tree) (faulty : List ℕ) (config : List State) → IsLocked tree faulty config
    → LockedBy (lock_of tree) (tree_nodes tree) faulty config
locked_here One faulty config is = is
locked_here (Split left right spares) faulty config is = is

locked_there : (tree : Tree) (faulty : List ℕ) (config : List State)
    → LockedBy (lock_of tree) (tree_nodes tree) faulty config → IsLocked tree faulty config
locked_there One faulty config is = is
locked_there (Split left right spares) faulty config is = is

pub machines_are_sound : MachinesAreSound
machines_are_sound tree modulus two most few =
    let d : ℕ = tree_depth tree in
    let fields : ℕ → Fields = fields_in tree modulus in
    let some : (v : ℕ) → All (λ modulus. 0 < modulus) (fields v).moduli =
    λ v. (positive_fields tree modulus v (omega arith)).1 in
    let fit : (v : ℕ) → length (fields v).moduli ≤ d = fields_most tree modulus in record {
      quorum = three_faults tree;
      few = few;
      least_modulus = two;
      most_modulus = most;
      fields = λ v lt.
          let limits = few_fields tree modulus v most few in
          let base : 0 < (fields v).base = (positive_fields tree modulus v (omega arith)).0 in
          record {
            least = omega (arith, base);
            most = limits.0;
            moduli = All-append (λ modulus. modulus ≤ 2 ^ 40) (fields v).moduli
                (replicate (d - length (fields v).moduli) 0) limits.1
                (All-replicate (λ modulus. modulus ≤ 2 ^ 40) (d - length (fields v).moduli) 0
                (omega arith));
          };
      depth = λ v lt. long (fields v) d (some v) (fit v);
      shown = λ v lt state is.
          shown_below tree modulus v state (omega (arith, two))
          (state_of_range tree modulus (omega (arith, two)) v state is).fields;
      next = λ v lt heard.
          range_of_state tree modulus (omega arith) v (step_of tree modulus v heard)
          (step_is_state tree modulus v heard (omega arith));
      further = ignores_further tree modulus;
      settles =
          laws.every_tree_settles level.one_half_is_sound level.halves_settle tree modulus two;
      locks = λ faulty run borne is long.
          locked_here tree faulty (configuration run (tree_bound tree))
          (laws.locks_at_bound level.one_half_is_sound level.halves_settle tree modulus two faulty
          run
          borne is long);
      stays = λ faulty run borne is from lt locked.
          let stays = laws.locked_runs_count level.locked_stays_locked tree modulus two faulty run
          borne is from lt (locked_there tree faulty (configuration run from) locked) in
          record {
            locked = λ t le within.
                locked_here tree faulty (configuration run t) (stays.locked t le within);
            counts = stays.counts;
          };
    }
