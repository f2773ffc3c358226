-- The shape of a plan.
use Rattle.std.proofs.Common.{◌≡◌, cond, ℕ, ◌+◌, ◌≤◌, ◌^◌, List, [], ◌∷◌, ◌++◌, length, map, refl}
use Rattle.std.proofs.Common.{ap, sym, subst, ◌∙◌, ◌*◌, ◌%◌, ◌<◌, arith, None, true, get_or}
use Rattle.std.specs.Prelude.{All, nat_lt}
use Rattle.std.proofs.Math.Nat.{mod-eq_of_lt, mul-le-mul_right}
use Rattle.std.proofs.lemmas.Bool.{ne_eqb, lt-ltb}
use Rattle.std.proofs.lemmas.List.{length-map, length-reverse}
use Rattle.std.proofs.lemmas.List.Elements.{All-push}
use Rattle.std.proofs.lemmas.List.FromFn.{length-map-range_with_len, get_or-map-range_with_len}
use mathlib.Core.List.{reverse-cons}
use Rattle.construction.specs.Widths.{width}
use Rattle.construction.specs.Plans.{Level, Plan, bits_of, plan_bits, plan_depth, plan_low}
use Rattle.construction.specs.Plans.{plan_nodes, low_of, nodes_of}
use Rattle.plan_numbers.specs.Numbers.{below_of}
use Rattle.plan_numbers.specs.Premises.{LevelsAccepted, IsAccepted, base_premise}
use Rattle.plan_numbers.proofs.Accepted.{meets}
use Rattle.state_codec.specs.Shapes.{Fields, IsFields, fields_at, IsShape, shape_nodes, moduli_of}
use Rattle.state_codec.specs.Shapes.{fields_from, AreAll, all_over, all_of, shape_over, shape_of}
use Rattle.state_codec.specs.Shapes.{register_bits, registers_bits, bits_in}
use Rattle.state_codec.proofs.RegisterSteps.{registers_bits_push, registers_bits_of_none}
use Rattle.state_codec.proofs.Lows.{all_moduli, from_limited, fields_of_node}

-- the top level's modulus is the last
pub moduli_of-cons : (level : Level) (levels : List Level)
    → moduli_of (level ∷ levels) ≡ moduli_of levels ++ level.modulus ∷ []
unfolding moduli_of
moduli_of-cons level levels = reverse-cons level.modulus (map (λ l. l.modulus) levels)

pub length-moduli_of : (levels : List Level) → length (moduli_of levels) ≡ length levels
unfolding moduli_of
length-moduli_of levels = length-reverse (map (λ l. l.modulus) levels)
    ∙ length-map levels (λ l. l.modulus)

pub no_moduli : moduli_of [] ≡ []
unfolding moduli_of
no_moduli = refl

pub depth_of_shape : (plan : Plan) → (shape_of plan).depth ≡ plan_depth plan
depth_of_shape plan = length-moduli_of plan.levels

-- fields for each node
pub nodes_of_shape : (plan : Plan) (moduli : List ℕ)
    → shape_nodes (shape_over plan moduli) ≡ plan_nodes plan
nodes_of_shape plan moduli = length-map-range_with_len
    (λ v. fields_from (all_over plan moduli) (plan_low plan v)) 0 (plan_nodes plan)

-- the moduli of accepted levels keep the limits
moduli_limited : (base : ℕ) (levels : List Level) → LevelsAccepted base levels
    → All (λ c. (2 ≤ c) × (c ≤ 2 ^ 40)) (moduli_of levels)
moduli_limited base [] accepted = rw no_moduli (λ k d lt. absurd (omega arith))
moduli_limited base (level ∷ below) (accepted, none) =
    let met = meets (below_of base below) level none in
    rw (moduli_of-cons level below) (All-push (λ c. (2 ≤ c) × (c ≤ 2 ^ 40)) (moduli_of below)
    level.modulus (moduli_limited base below accepted) (met.modulus, met.most_modulus))

-- and so does the base
base_accepted : (base : ℕ) (levels : List Level) → LevelsAccepted base levels
    → base_premise base ≡ None
base_accepted base [] accepted = accepted
base_accepted base (level ∷ below) (accepted, none) = base_accepted base below accepted

base_limited : (base : ℕ) → base_premise base ≡ None → (2 ≤ base) × (base ≤ 2 ^ 40)
base_limited base none =
    let least : 2 ≤ base = grind arith in
    let most : base ≤ 2 ^ 40 = grind arith in
    (least, most)

-- so all fields of an accepted plan keep them
pub all_of_accepted : (plan : Plan) → IsAccepted plan → AreAll (all_of plan)
all_of_accepted plan accepted =
    let limits = base_limited plan.base (base_accepted plan.base plan.levels accepted.levels) in
    record {
      least = limits.0;
      most = limits.1;
      moduli = moduli_limited plan.base plan.levels accepted.levels;
    }

-- ---- node 0 is no spare

nodes_some : (base : ℕ) (levels : List Level) → LevelsAccepted base levels → 1 ≤ nodes_of levels
nodes_some base [] accepted = omega arith
nodes_some base (level ∷ below) (accepted, none) =
    let met = meets (below_of base below) level none in
    let three : 3 * nodes_of below ≤ level.blocks * nodes_of below =
    mul-le-mul_right (nodes_of below) met.blocks in
    omega (arith, nodes_some base below accepted, three)

first_low : (base : ℕ) (levels : List Level) → LevelsAccepted base levels → low_of levels 0 ≡ 0
first_low base [] accepted = refl
first_low base (level ∷ below) (accepted, none) =
    let n : ℕ = nodes_of below in
    let met = meets (below_of base below) level none in
    let some : 1 ≤ n = nodes_some base below accepted in
    let three : 3 * n ≤ level.blocks * n = mul-le-mul_right n met.blocks in
    let within : nat_lt 0 (level.blocks * n) ≡ true =
    lt-ltb 0 (level.blocks * n) (omega (arith, three, some)) in
    let front : 0 % n ≡ 0 = mod-eq_of_lt (omega (arith, some)) in
    ap (λ b. cond b (low_of below (0 % n)) (length below + 1)) within
    ∙ (ap (low_of below) front ∙ first_low base below accepted)

-- so the shape of an accepted plan is within the limits, and node 0 has each register
module _ (plan : Plan) (moduli : List ℕ) (accepted : IsAccepted plan)
    (full : AreAll (all_over plan moduli)) where
  first_fields : fields_at (shape_over plan moduli) 0 ≡ fields_from (all_over plan moduli) 0
  first_fields =
      fields_of_node plan moduli 0
      (let some = nodes_some plan.base plan.levels accepted.levels in omega (arith, some))
      ∙ ap (fields_from (all_over plan moduli)) (first_low plan.base plan.levels accepted.levels)

  first_has : (i : ℕ) → i < length moduli
      → 1 ≤ get_or (fields_at (shape_over plan moduli) 0).moduli i 0
  first_has i lt =
      let two = (full.moduli i 0 lt).0 in
      let same : get_or (fields_at (shape_over plan moduli) 0).moduli i 0 ≡ get_or moduli i 0 =
      ap (λ (f : Fields). get_or f.moduli i 0) first_fields
      ∙ ap (λ ms. get_or ms i 0) (all_moduli moduli) in
      omega (arith, two, same)

  pub over_accepted : IsShape (shape_over plan moduli)
  over_accepted = record {
    fields = λ k d lt. subst IsFields (sym (get_or-map-range_with_len
        (λ v. fields_from (all_over plan moduli) (plan_low plan v)) 0 (plan_nodes plan) k k d
        (omega (arith, lt, nodes_of_shape plan moduli)) (omega arith)))
        (from_limited (all_over plan moduli) (plan_low plan k) full);
    used = λ i lt. (
      0,
      let some = nodes_some plan.base plan.levels accepted.levels in
          omega (arith, some, nodes_of_shape plan moduli),
      first_has i lt,
    );
  }

pub shape_of_accepted : (plan : Plan) → IsAccepted plan → IsShape (shape_of plan)
shape_of_accepted plan accepted =
    over_accepted plan (moduli_of plan.levels) accepted (all_of_accepted plan accepted)

-- ---- a state with all fields has the plan's bits

full_register : (modulus : ℕ) → 2 ≤ modulus → register_bits modulus ≡ width (modulus + 1) + 1
full_register modulus two = ap (λ b. cond b 0 (width (modulus + 1) + 1))
    (ne_eqb modulus 0 (λ e. absurd (omega arith)))

bits_of_levels : (base : ℕ) (levels : List Level) → LevelsAccepted base levels
    → width base + registers_bits (moduli_of levels) ≡ bits_of base levels
bits_of_levels base [] accepted = omega (arith, ap registers_bits no_moduli, registers_bits_of_none)
bits_of_levels base (level ∷ below) (accepted, none) =
    let met = meets (below_of base below) level none in
    omega (
      arith,
      bits_of_levels base below accepted,
      ap registers_bits (moduli_of-cons level below),
      registers_bits_push (moduli_of below) level.modulus,
      full_register level.modulus met.modulus,
    )

pub bits_of_all : (plan : Plan) → IsAccepted plan
    → bits_in (fields_from (all_of plan) 0) ≡ plan_bits plan
bits_of_all plan accepted =
    ap (λ ms. width plan.base + registers_bits ms) (all_moduli (moduli_of plan.levels))
    ∙ bits_of_levels plan.base plan.levels accepted.levels

pub bits_of_shape : (plan : Plan) → IsAccepted plan → (v : ℕ) → v < plan_nodes plan
    → plan_low plan v ≡ 0 → bits_in (fields_at (shape_of plan) v) ≡ plan_bits plan
bits_of_shape plan accepted v lt none =
    ap bits_in (fields_of_node plan (moduli_of plan.levels) v lt
    ∙ ap (fields_from (all_of plan)) none)
    ∙ bits_of_all plan accepted

-- ---- node 0 of a plan has all fields

pub first_has_all : (plan : Plan) → IsAccepted plan → fields_at (shape_of plan) 0 ≡ all_of plan
first_has_all plan accepted =
    let moduli : List ℕ = moduli_of plan.levels in
    first_fields plan moduli accepted (all_of_accepted plan accepted)
    ∙ ap (all_over plan) (all_moduli moduli)

pub first_bits : (plan : Plan) → IsAccepted plan
    → bits_in (fields_at (shape_of plan) 0) ≡ plan_bits plan
first_bits plan accepted =
    ap bits_in (first_has_all plan accepted) ∙ bits_of_levels plan.base plan.levels accepted.levels
