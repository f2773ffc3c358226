-- A plan's shape is made of the fields of each low, and of the low of each node.
use Rattle.std.proofs.Common.{◌≡◌, ℕ, ◌+◌, ◌<◌, ◌≤◌, List, length, get_or, map, refl, sym, ap, ap₂}
use Rattle.std.proofs.Common.{subst, ◌∙◌, arith}
use Rattle.std.specs.Prelude.{All, slice_index_or}
use Rattle.std.specs.List.{range_with_len}
use Rattle.std.proofs.lemmas.List.{length-map, get_or-map}
use Rattle.std.proofs.lemmas.List.FromFn.{length-map-range_with_len, get_or-map-range_with_len}
use Rattle.std.proofs.lemmas.List.FromFn.{fill_by_all}
use Rattle.construction.specs.Plans.{Plan, plan_low, plan_nodes, plan_depth}
use Rattle.construction.proofs.Ranges.{low_most}
use Rattle.state_codec.specs.Shapes.{Fields, no_fields, Shape, IsShape, lows_of, fields_from}
use Rattle.state_codec.specs.Shapes.{all_over, shape_over}
use Rattle.state_codec.specs.ShapesKept.{fields_by, IsValidShape}
use Rattle.state_codec.proofs.Lows.{made_at, length-moduli_from}

module _ (plan : Plan) (moduli : List ℕ) (kinds : List Fields) (which : List ℕ)
    (made : kinds
    ≡ map (fields_from (all_over plan moduli)) (range_with_len 0 (plan_depth plan + 1)))
    (lows : which ≡ lows_of plan) where
  abbrev all : Fields
  all = all_over plan moduli

  many : length which ≡ plan_nodes plan
  many = ap length lows ∙ length-map-range_with_len (plan_low plan) 0 (plan_nodes plan)

  kinds_long : length kinds ≡ plan_depth plan + 1
  kinds_long = ap length made
      ∙ length-map-range_with_len (fields_from all) 0 (plan_depth plan + 1)

  low_at : (v : ℕ) → v < plan_nodes plan → get_or which v 0 ≡ plan_low plan v
  low_at v lt = made_at (plan_low plan) (plan_nodes plan) v 0 which lows lt

  kind_is : (v : ℕ) → v < plan_nodes plan
      → get_or (fields_by kinds which) v no_fields ≡ fields_from all (plan_low plan v)
  kind_is v lt =
      get_or-map (λ kind. slice_index_or kinds kind no_fields) which v 0 no_fields
      (omega (arith, lt, many))
      ∙ (ap (λ kind. get_or kinds kind no_fields) (low_at v lt)
      ∙ made_at (fields_from all) (plan_depth plan + 1) (plan_low plan v) no_fields kinds made
      (omega (arith, low_most plan.levels v)))

  -- they make the plan's fields
  pub fields_are : fields_by kinds which
      ≡ map (λ v. fields_from all (plan_low plan v)) (range_with_len 0 (plan_nodes plan))
  fields_are = fill_by_all (λ v. fields_from all (plan_low plan v)) (fields_by kinds which)
      (plan_nodes plan) no_fields
      (length-map which (λ kind. slice_index_or kinds kind no_fields) ∙ many) kind_is

  pub shape_is : (depth : ℕ) → depth ≡ length moduli
      → record { depth = depth; fields = fields_by kinds which } ≡ shape_over plan moduli
  shape_is depth deep = ap₂ (λ (d : ℕ) (fields : List Fields).
      let shape : Shape = record { depth = d; fields = fields } in shape) deep fields_are

  pub plan_kept : (depth : ℕ) → depth ≡ length moduli → plan_nodes plan ≤ 256
      → IsShape (shape_over plan moduli)
      → IsValidShape (record { depth = depth; fields = fields_by kinds which }) kinds which
  plan_kept depth deep nodes sound = record {
    sound = subst IsShape (sym (shape_is depth deep)) sound;
    nodes = omega (arith, many, nodes);
    fields = refl;
    depth = subst (λ ks. All (λ (fields : Fields). length fields.moduli ≡ depth) ks) (sym made)
        (λ k d lt.
        let inside : k < plan_depth plan + 1 = omega (
          arith,
          lt,
          length-map-range_with_len (fields_from all) 0 (plan_depth plan + 1),
        ) in
        ap (λ (f : Fields). length f.moduli)
        (get_or-map-range_with_len (fields_from all) 0 (plan_depth plan + 1) k k d inside
        (omega arith))
        ∙ (length-moduli_from k moduli ∙ sym deep));
    among = λ v d lt.
        let inside : v < plan_nodes plan = omega (arith, lt, many) in
        subst (λ k. k < length kinds) (sym (made_at (plan_low plan) (plan_nodes plan) v d which lows
        inside)) (omega (arith, kinds_long, low_most plan.levels v));
  }
