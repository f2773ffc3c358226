-- The fields of nodes: of any shape, and of nodes of each low.
use Rattle.std.proofs.Common.{◌≡◌, Bool, true, false, cond, ℕ, zero, suc, ◌+◌, ◌<◌, ◌≤◌, ◌^◌, List}
use Rattle.std.proofs.Common.{[], ◌∷◌, ◌++◌, length, get_or, map, refl, sym, ap, subst, ◌∙◌, arith}
use Rattle.std.proofs.Common.{inl, inr, take}
use Rattle.std.specs.Prelude.{All, nat_lt, if◌then◌else◌, slice_index, slice_index_or, ◌==◌}
use Rattle.std.specs.List.{range_with_len}
use Rattle.std.proofs.lemmas.Bool.{cases_lt, le-ltb}
use Rattle.std.proofs.lemmas.List.{get_or_past, get_or_default, get_or-map, take_more}
use Rattle.std.proofs.lemmas.List.FromFn.{map-range_with_len_more, length-map-range_with_len}
use Rattle.std.proofs.lemmas.List.FromFn.{get_or-map-range_with_len, fill_by_all}
use Rattle.std.proofs.lemmas.Grind.{same_number_lists}
use Rattle.construction.specs.Plans.{Plan, plan_low, plan_nodes}
use Rattle.state_codec.specs.Shapes.{Fields, no_fields, to_depth, fields_at, Shape, IsFields}
use Rattle.state_codec.specs.Shapes.{IsShape, AreAll, moduli_from, fields_from, all_over}
use Rattle.state_codec.specs.Shapes.{shape_over}
use Rattle.state_codec.specs.ShapesKept.{IsValidShape}

-- a list that is made item by item
pub made_more : {X : Type 0} (f : ℕ → X) (i : ℕ) (x : X) (xs : List X)
    → xs ≡ map f (range_with_len 0 i) → x ≡ f i → xs ++ x ∷ [] ≡ map f (range_with_len 0 (i + 1))
made_more f i x xs before is =
    ap (λ ys. ys ++ x ∷ []) before ∙ (ap (λ y. map f (range_with_len 0 i) ++ y ∷ []) is
    ∙ sym (map-range_with_len_more f 0 i i (omega arith)))

-- a list that is copied item by item
pub taken_more : {X : Type 0} (xs : List X) (i : ℕ) (x : X) (made : List X) → i < length xs
    → made ≡ take i xs → x ≡ get_or xs i x → made ++ x ∷ [] ≡ take (i + 1) xs
taken_more xs i x made lt before is =
    ap (λ ys. ys ++ x ∷ []) before ∙ (ap (λ y. take i xs ++ y ∷ []) is
    ∙ sym (take_more xs i x lt))

-- an item of it
pub made_at : {X : Type 0} (f : ℕ → X) (n i : ℕ) (d : X) (xs : List X)
    → xs ≡ map f (range_with_len 0 n) → i < n → get_or xs i d ≡ f i
made_at f n i d xs is lt = ap (λ ys. get_or ys i d) is
    ∙ get_or-map-range_with_len f 0 n i i d lt (omega arith)

-- a default does not matter within a list
pub any_default : (xs : List ℕ) (i d e : ℕ) → i < length xs → get_or xs i d ≡ get_or xs i e
any_default [] i d e lt = absurd (omega arith)
any_default (x ∷ xs) zero d e lt = refl
any_default (x ∷ xs) (suc i) d e lt = any_default xs i d e (omega arith)

-- ---- the moduli of a low

pub length-moduli_from : (low : ℕ) (cs : List ℕ) → length (moduli_from low cs) ≡ length cs
length-moduli_from low cs = length-map-range_with_len
    (λ i. if nat_lt (i + 1) low then 0 else slice_index cs i) 0 (length cs)

pub modulus_at : (low : ℕ) (cs : List ℕ) (i : ℕ) → i < length cs
    → get_or (moduli_from low cs) i 0 ≡ cond (nat_lt (i + 1) low) 0 (get_or cs i 0)
modulus_at low cs i lt = get_or-map-range_with_len
    (λ i. if nat_lt (i + 1) low then 0 else slice_index cs i) 0 (length cs) i i 0 lt (omega arith)

-- a node of low 0 has all registers
pub all_moduli : (cs : List ℕ) → moduli_from 0 cs ≡ cs
all_moduli cs = same_number_lists (moduli_from 0 cs) cs (length-moduli_from 0 cs) (λ k lt.
    let inside : k < length cs = omega (arith, length-moduli_from 0 cs) in
    modulus_at 0 cs k inside ∙ ap (λ b. cond b 0 (get_or cs k 0)) (le-ltb (k + 1) 0 (omega arith)))

choice_most : (b : Bool) (c : ℕ) → c ≤ 2 ^ 40 → cond b 0 c ≤ 2 ^ 40
choice_most true c most = omega arith
choice_most false c most = most

pub moduli_from_limited : (low : ℕ) (cs : List ℕ) → All (λ c. (2 ≤ c) × (c ≤ 2 ^ 40)) cs
    → All (λ c. c ≤ 2 ^ 40) (moduli_from low cs)
moduli_from_limited low cs limits = λ k d lt.
    let inside : k < length cs = omega (arith, length-moduli_from low cs) in
    subst (λ c. c ≤ 2 ^ 40) (sym (get_or-map-range_with_len
    (λ i. if nat_lt (i + 1) low then 0 else slice_index cs i) 0 (length cs) k k d inside
    (omega arith)))
    (choice_most (nat_lt (k + 1) low) (slice_index cs k) (limits k 0 inside).1)

own_base : (b : Bool) (base : ℕ) → 2 ≤ base → base ≤ 2 ^ 40
    → (1 ≤ cond b base 1) × (cond b base 1 ≤ 2 ^ 40)
own_base true base least most = (omega arith, most)
own_base false base least most = (omega arith, omega arith)

-- the fields of a low are within the limits if all fields are
pub from_limited : (all : Fields) (low : ℕ) → AreAll all → IsFields (fields_from all low)
from_limited all low sound =
    let own = own_base (low == 0) all.base sound.least sound.most in
    record {
      least = own.0;
      most = own.1;
      moduli = moduli_from_limited low all.moduli sound.moduli;
    }

-- so are those of the same moduli
pub own_limited : (all : Fields) (low own : ℕ) (ms : List ℕ) → AreAll all
    → own ≡ cond (low == 0) all.base 1 → ms ≡ moduli_from low all.moduli
    → IsFields (record { base = own; moduli = ms })
own_limited all low own ms sound is same =
    let limits = from_limited all low sound in
    record {
      least = subst (λ b. 1 ≤ b) (sym is) limits.least;
      most = subst (λ b. b ≤ 2 ^ 40) (sym is) limits.most;
      moduli = subst (λ xs. All (λ c. c ≤ 2 ^ 40) xs) (sym same) limits.moduli;
    }

-- ---- the fields of a node

-- they have a modulus for each register
pub depth_at : (shape : Shape) (v : ℕ) → length (fields_at shape v).moduli ≡ shape.depth
depth_at shape v = length-map-range_with_len
    (λ i. slice_index_or (slice_index_or shape.fields v no_fields).moduli i 0) 0 shape.depth

-- fields of the depth are taken as they are
pub same_depth : (depth : ℕ) (fields : Fields) → length fields.moduli ≡ depth
    → fields ≡ to_depth depth fields
same_depth depth fields deep = ap (λ (ms : List ℕ). record fields { moduli = ms })
    (fill_by_all (λ i. slice_index_or fields.moduli i 0) fields.moduli depth 0 deep (λ k lt. refl))

none_limited : IsFields no_fields
none_limited = record {
  least = omega arith;
  most = omega arith;
  moduli = λ k d lt. absurd (omega arith);
}

kind_limited : (fields : List Fields) (v : ℕ) → All IsFields fields
    → IsFields (get_or fields v no_fields)
kind_limited fields v limited = elim (cases_lt v (length fields)) [
  | inl inside ↦ limited v no_fields inside
  | inr over ↦ subst IsFields (sym (get_or_past fields v no_fields over)) none_limited
]

modulus_limited : (ms : List ℕ) (i : ℕ) → All (λ c. c ≤ 2 ^ 40) ms → get_or ms i 0 ≤ 2 ^ 40
modulus_limited ms i limited = elim (cases_lt i (length ms)) [
  | inl inside ↦ limited i 0 inside
  | inr over ↦ subst (λ c. c ≤ 2 ^ 40) (sym (get_or_past ms i 0 over)) (omega arith)
]

-- they are within the limits if the shape is
pub fields_limited : (shape : Shape) (v : ℕ) → IsShape shape → IsFields (fields_at shape v)
fields_limited shape v sound =
    let own : Fields = get_or shape.fields v no_fields in
    let limits = kind_limited shape.fields v sound.fields in
    record {
      least = limits.least;
      most = limits.most;
      moduli = λ k d lt. subst (λ c. c ≤ 2 ^ 40)
          (sym (get_or-map-range_with_len (λ i. slice_index_or own.moduli i 0) 0 shape.depth k k d
          (omega (arith, lt, depth_at shape v)) (omega arith)))
          (modulus_limited own.moduli k limits.moduli);
    }

-- ---- what a shape keeps

-- the fields of a node are those of its kind
pub kind_at : (shape : Shape) (kinds : List Fields) (which : List ℕ) (v kind : ℕ) (found : Fields)
    → IsValidShape shape kinds which → v < length which → kind ≡ get_or which v 0
    → found ≡ get_or kinds kind found → found ≡ fields_at shape v
kind_at shape kinds which v kind found kept lt same is =
    let below : kind
    < length kinds = subst (λ k. k < length kinds) (sym same) (kept.among v 0 lt) in
    let deep : length found.moduli ≡ shape.depth =
    subst (λ (f : Fields). length f.moduli ≡ shape.depth) (sym is) (kept.depth kind found below) in
    let own : get_or shape.fields v no_fields ≡ found =
    ap (λ (fs : List Fields). get_or fs v no_fields) kept.fields
    ∙ (get_or-map (λ k. slice_index_or kinds k no_fields) which v 0 no_fields lt
    ∙ (ap (λ k. get_or kinds k no_fields) (sym same)
    ∙ (get_or_default kinds kind no_fields found below ∙ sym is))) in
    same_depth shape.depth found deep ∙ ap (to_depth shape.depth) (sym own)

-- ---- a plan's shape

-- the fields of a node of a plan are those of its low
pub fields_of_node : (plan : Plan) (moduli : List ℕ) (v : ℕ) → v < plan_nodes plan
    → fields_at (shape_over plan moduli) v ≡ fields_from (all_over plan moduli) (plan_low plan v)
fields_of_node plan moduli v lt =
    let all : Fields = all_over plan moduli in
    ap (to_depth (length moduli)) (get_or-map-range_with_len
    (λ v. fields_from all (plan_low plan v)) 0 (plan_nodes plan) v v no_fields lt (omega arith))
    ∙ sym (same_depth (length moduli) (fields_from all (plan_low plan v))
    (length-moduli_from (plan_low plan v) moduli))
