-- The shape of a halving plan's states is one, and its fields are those of the plan's machine.
use Rattle.std.proofs.Common.{◌≡◌, ℕ, zero, suc, ◌-◌, ◌<◌, ◌≤◌, List, [], ◌∷◌, ◌++◌, length, get_or}
use Rattle.std.proofs.Common.{replicate, sym, ap, ◌∙◌, subst, arith}
use Rattle.std.specs.Prelude.{All, slice_index_or}
use Rattle.std.proofs.lemmas.List.FromFn.{length-map-range_with_len, get_or-map-range_with_len}
use Rattle.state_codec.specs.Shapes.{Fields, IsFields, IsShape, fields_at, shape_nodes}
use Rattle.state_codec.specs.Shapes.{no_fields, to_depth}
use Rattle.state_codec.proofs.Lows.{same_depth}
use Rattle.machines.specs.Laws.{IsSound}
use Rattle.halving_plan.specs.Steps.{tree_depth}
use Rattle.halving_plan.specs.Runs.{fields_in, all_fields}
use Rattle.halving_plan.specs.Plans.{HalvingNumbers, IsAccepted, tree_of}
use Rattle.halving_plan.specs.Laws.{machine_in}
use Rattle.halving_plan.proofs.Sound as plans
use Rattle.halving_plan.proofs.Sound.{accepted_are_sound}
use Rattle.halving_texts.specs.HalvingShapes.{shape_of}
use Rattle.halving_texts.proofs.Used.{deep_node}

front : (xs ys : List ℕ) (i : ℕ) → 1 ≤ get_or xs i 0 → 1 ≤ get_or (xs ++ ys) i 0
front [] ys i some = absurd (omega (arith, some))
front (x ∷ xs) ys zero some = some
front (x ∷ xs) ys (suc i) some = front xs ys i some

module _ (plan : HalvingNumbers) (accepted : IsAccepted plan) where
  abbrev fields : (v : ℕ) → Fields
  fields v = all_fields (tree_of plan) plan.modulus v

  is_sound : IsSound (machine_in plan)
  is_sound = accepted_are_sound plan accepted

  pub limited : (v : ℕ) → v < plan.nodes → IsFields (fields v)
  limited v lt = is_sound.fields v (omega (arith, lt, plans.nodes_are plan accepted))

  pub deep : (v : ℕ) → v < plan.nodes → length (fields v).moduli ≡ tree_depth (tree_of plan)
  deep v lt = is_sound.depth v (omega (arith, lt, plans.nodes_are plan accepted))

  pub nodes_are : shape_nodes (shape_of plan) ≡ plan.nodes
  nodes_are = length-map-range_with_len fields 0 plan.nodes

  -- the fields of a node
  pub fields_are : (v : ℕ) → v < plan.nodes → fields_at (shape_of plan) v ≡ fields v
  fields_are v lt =
      ap (to_depth (tree_depth (tree_of plan)))
      (get_or-map-range_with_len fields 0 plan.nodes v v no_fields lt (omega arith))
      ∙ sym (same_depth (tree_depth (tree_of plan)) (fields v) (deep v lt))

  pub all_limited : All IsFields (shape_of plan).fields
  all_limited k d lt =
      let inside : k < plan.nodes = omega (arith, lt, nodes_are) in
      let at = get_or-map-range_with_len fields 0 plan.nodes k k d inside (omega arith) in
      subst IsFields (sym at)
      (limited k inside)

  pub all_deep : All (λ (f : Fields). length f.moduli ≡ tree_depth (tree_of plan))
      (shape_of plan).fields
  all_deep k d lt =
      let inside : k < plan.nodes = omega (arith, lt, nodes_are) in
      subst (λ (f : Fields). length f.moduli ≡ tree_depth (tree_of plan))
      (sym (get_or-map-range_with_len fields 0 plan.nodes k k d inside (omega arith)))
      (deep k inside)

  -- some node has each register
  used : (i : ℕ) → i < tree_depth (tree_of plan) → (v : ℕ) × (v < shape_nodes (shape_of plan))
      × (1 ≤ slice_index_or (fields_at (shape_of plan) v).moduli i 0)
  used i lt =
      let least = accepted.least_modulus in
      let node = deep_node (tree_of plan) plan.modulus (omega (arith, least)) in
      let inside = node.inside in
      let below : node.node < plan.nodes = omega (arith, inside, plans.nodes_are plan accepted) in
      let some = front (fields_in (tree_of plan) plan.modulus node.node).moduli
      (replicate (tree_depth (tree_of plan)
      - length (fields_in (tree_of plan) plan.modulus node.node).moduli) 0) i (node.each i lt) in (
        node.node,
        omega (arith, below, nodes_are),
        subst (λ (f : Fields). 1 ≤ get_or f.moduli i 0) (sym (fields_are node.node below)) some,
      )

  pub is_shape : IsShape (shape_of plan)
  is_shape = record { fields = all_limited; used = used }
