-- Further registers after a plan's are every node's.
use Rattle.std.proofs.Common.{◌≡◌, cond, ℕ, ◌+◌, ◌<◌, ◌≤◌, inl, inr, List, ◌++◌, length, get_or}
use Rattle.std.proofs.Common.{replicate, refl, sym, ap, ap₂, ◌∙◌, arith, length-append}
use Rattle.std.specs.Prelude.{nat_lt}
use Rattle.std.proofs.lemmas.Bool.{cases_lt, le-ltb}
use Rattle.std.proofs.lemmas.Grind.{same_number_lists}
use Rattle.std.proofs.lemmas.List.{get_or_append_left, get_or-append_right, get_or-append-add}
use Rattle.std.proofs.lemmas.List.{get_or-replicate, length-replicate}
use Rattle.construction.specs.Plans.{Plan, plan_low, plan_nodes, plan_depth}
use Rattle.construction.proofs.Ranges.{low_most}
use Rattle.state_codec.specs.Shapes.{Fields, moduli_of, moduli_from, all_of, shape_of, shape_with}
use Rattle.state_codec.specs.Shapes.{IsShape, with_further, fields_from, fields_at}
use Rattle.state_codec.proofs.Plans.{length-moduli_of, nodes_of_shape}
use Rattle.state_codec.proofs.Lows.{length-moduli_from, modulus_at, fields_of_node, depth_at}

module _ (low : ℕ) (own behind : List ℕ) (few : low ≤ length own) where
  modulus_in : (i : ℕ) → i < length (own ++ behind)
      → get_or (moduli_from low (own ++ behind)) i 0 ≡ get_or (moduli_from low own ++ behind) i 0
  modulus_in i lt = modulus_at low (own ++ behind) i lt ∙ elim (cases_lt i (length own)) [
    | inl inside ↦
        ap (λ m. cond (nat_lt (i + 1) low) 0 m) (get_or_append_left own behind 0 i inside)
        ∙ (sym (modulus_at low own i inside)
        ∙ sym (get_or_append_left (moduli_from low own) behind 0 i
        (omega (arith, length-moduli_from low own))))
    | inr over ↦
        ap (λ b. cond b 0 (get_or (own ++ behind) i 0)) (le-ltb (i + 1) low (omega arith))
        ∙ (get_or-append_right own behind (length own) i 0 refl over
        ∙ sym (get_or-append_right (moduli_from low own) behind (length own) i 0
        (length-moduli_from low own) over))
  ]

  -- what follows is no level's, and no node lacks it
  pub moduli_from_further : moduli_from low (own ++ behind) ≡ moduli_from low own ++ behind
  moduli_from_further =
      let long : length (moduli_from low (own ++ behind)) ≡ length (moduli_from low own ++ behind) =
      omega (
        arith,
        length-moduli_from low (own ++ behind),
        length-append own behind,
        length-append (moduli_from low own) behind,
        length-moduli_from low own,
      ) in
      same_number_lists (moduli_from low (own ++ behind)) (moduli_from low own ++ behind) long
      (λ i lt. modulus_in i (omega (arith, length-moduli_from low (own ++ behind))))

module _ (plan : Plan) (values count v : ℕ) (lt : v < plan_nodes plan) where
  pub fields_with_further : fields_at (shape_with plan values count) v
      ≡ with_further (fields_at (shape_of plan) v) values count
  fields_with_further =
      let own : List ℕ = moduli_of plan.levels in
      let low : ℕ = plan_low plan v in
      let few : low ≤ length own = omega (
        arith,
        low_most plan.levels v,
        length-moduli_of plan.levels,
      ) in
      fields_of_node plan (own ++ replicate count values) v lt
      ∙ (ap (λ (ms : List ℕ). record (fields_from (all_of plan) low) { moduli = ms })
      (moduli_from_further low own (replicate count values) few)
      ∙ ap (λ f. with_further f values count) (sym (fields_of_node plan own v lt)))

  -- the modulus of a further register
  pub further_modulus : (i : ℕ) → i < count
      → get_or (fields_at (shape_with plan values count) v).moduli (plan_depth plan + i) 0 ≡ values
  further_modulus i inside =
      let own : List ℕ = (fields_at (shape_of plan) v).moduli in
      let long : length own ≡ plan_depth plan =
      depth_at (shape_of plan) v ∙ length-moduli_of plan.levels in
      ap (λ (f : Fields). get_or f.moduli (plan_depth plan + i) 0) fields_with_further
      ∙ (ap (λ n. get_or (own ++ replicate count values) (n + i) 0) (sym long)
      ∙ (get_or-append-add own (replicate count values) i 0
      ∙ get_or-replicate count i values 0 inside))

-- a further register has values
pub further_some : (plan : Plan) (values count : ℕ) → IsShape (shape_with plan values count)
    → (i : ℕ) → i < count → 1 ≤ values
further_some plan values count sound i inside =
    let deep : length (moduli_of plan.levels ++ replicate count values) ≡ plan_depth plan + count =
    length-append (moduli_of plan.levels) (replicate count values)
    ∙ ap₂ (λ (a b : ℕ). a + b) (length-moduli_of plan.levels) (length-replicate count values) in
    let some = sound.used (plan_depth plan + i) (omega (arith, inside, deep)) in
    let node : some.0 < plan_nodes plan = let lt = some.1 in
    omega (arith, lt, nodes_of_shape plan (moduli_of plan.levels ++ replicate count values)) in
    let has = some.2 in
    omega (arith, has, further_modulus plan values count some.0 node i inside)
