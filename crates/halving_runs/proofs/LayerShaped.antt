-- The shape of a halving plan's states with a layer's registers is one, and small.
use Rattle.std.proofs.Common.{◌≡◌, ℕ, ◌+◌, ◌-◌, ◌^◌, ◌<◌, ◌≤◌, List}
use Rattle.std.proofs.Common.{length, get_or, map, replicate, inl, inr, sym, ap, ◌∙◌, subst}
use Rattle.std.proofs.Common.{arith, length-append}
use Rattle.std.specs.Prelude.{All, slice_index_or}
use Rattle.std.specs.List.{range_with_len}
use Rattle.std.proofs.lemmas.Bool.{cases_lt}
use Rattle.std.proofs.lemmas.List.{get_or_append_left, get_or-append-add, get_or-replicate}
use Rattle.std.proofs.lemmas.List.{length-replicate}
use Rattle.std.proofs.lemmas.List.Elements.{All-append, All-replicate}
use Rattle.std.proofs.lemmas.List.FromFn.{length-map-range_with_len, get_or-map-range_with_len}
use Rattle.std.proofs.lemmas.List.Sums.{sum_by-append}
use Rattle.state_codec.specs.Shapes.{Fields, IsFields, IsShape, fields_at, shape_nodes}
use Rattle.state_codec.specs.Shapes.{no_fields, to_depth, with_further, bits_in, registers_bits}
use Rattle.state_codec.specs.Shapes.{register_bits}
use Rattle.state_codec.proofs.Lows.{same_depth, made_at}
use Rattle.node_words.proofs.StateDigits.{most_bits}
use Rattle.halving_plan.specs.Steps.{tree_depth}
use Rattle.halving_plan.specs.Runs.{all_fields}
use Rattle.halving_plan.specs.Plans.{HalvingNumbers, IsAccepted, tree_of}
use Rattle.halving_texts.proofs.PlanBits.{some_bits_at, few_registers}
use Rattle.halving_texts.proofs.Shaped as shaped
use Rattle.halving_texts.specs.HalvingShapes.{shape_of}
use Rattle.halving_runs.specs.LayerShapes.{shape_with}

-- ---- the fields of a node

module _ (own : Fields) (values count : ℕ) where
  further_bits : bits_in (with_further own values count)
      ≡ bits_in own + registers_bits (replicate count values)
  unfolding registers_bits
  further_bits =
      omega (arith, sum_by-append register_bits own.moduli (replicate count values))

  -- what stands after the node's own moduli is limited
  module _ (most : values ≤ 65536) where
    behind_limited : All (λ modulus. modulus ≤ 2 ^ 40) (replicate count values)
    behind_limited = All-replicate (λ modulus. modulus ≤ 2 ^ 40) count values (omega (arith, most))

    pub further_limited : IsFields own → IsFields (with_further own values count)
    further_limited is = record {
      least = is.least;
      most = is.most;
      moduli = All-append (λ modulus. modulus ≤ 2 ^ 40) own.moduli (replicate count values)
          is.moduli
          behind_limited;
    }

    pub further_small : bits_in own ≤ 464 → count ≤ 2
        → bits_in (with_further own values count) ≤ 1024
    further_small small few =
        let alone : Fields = record { base = 1; moduli = replicate count values } in
        let more = most_bits alone
        (record { least = omega arith; most = omega arith; moduli = behind_limited }) in
        let behind : registers_bits (replicate count values) ≤ 125 =
        omega (arith, more, few, length-replicate count values) in
        omega (arith, further_bits, behind, small)

-- ---- the shape

module _ (plan : HalvingNumbers) (accepted : IsAccepted plan) (values count : ℕ)
    (least : 2 ≤ values) (most : values ≤ 65536) where
  abbrev pub fields : (v : ℕ) → Fields
  fields v = with_further (all_fields (tree_of plan) plan.modulus v) values count

  abbrev depth : ℕ
  depth = tree_depth (tree_of plan)

  deep : (v : ℕ) → v < plan.nodes → length (fields v).moduli ≡ depth + count
  deep v lt =
      let own = (all_fields (tree_of plan) plan.modulus v).moduli in
      omega (
        arith,
        length-append own (replicate count values),
        shaped.deep plan accepted v lt,
        length-replicate count values,
      )

  pub nodes_are : shape_nodes (shape_with plan values count) ≡ plan.nodes
  nodes_are = length-map-range_with_len fields 0 plan.nodes

  pub fields_are : (v : ℕ) → v < plan.nodes
      → fields_at (shape_with plan values count) v ≡ fields v
  fields_are v lt =
      ap (to_depth (depth + count))
      (get_or-map-range_with_len fields 0 plan.nodes v v no_fields lt (omega arith))
      ∙ sym (same_depth (depth + count) (fields v) (deep v lt))

  all_limited : All IsFields (shape_with plan values count).fields
  all_limited k d lt =
      let inside : k < plan.nodes = omega (arith, lt, nodes_are) in
      subst IsFields
      (sym (get_or-map-range_with_len fields 0 plan.nodes k k d inside (omega arith)))
      (further_limited (all_fields (tree_of plan) plan.modulus k) values count most
      (shaped.limited plan accepted k inside))

  pub all_deep : All (λ (f : Fields). length f.moduli ≡ depth + count)
      (shape_with plan values count).fields
  all_deep k d lt =
      let inside : k < plan.nodes = omega (arith, lt, nodes_are) in
      subst (λ (f : Fields). length f.moduli ≡ depth + count)
      (sym (get_or-map-range_with_len fields 0 plan.nodes k k d inside (omega arith)))
      (deep k inside)

  -- the modulus of a register of the plan's, and of one after them
  own_at : (v i : ℕ) → v < plan.nodes → i < depth
      → get_or (fields v).moduli i 0 ≡ get_or (fields_at (shape_of plan) v).moduli i 0
  own_at v i lt inside =
      let own = (all_fields (tree_of plan) plan.modulus v).moduli in
      get_or_append_left own (replicate count values) 0 i
      (omega (arith, inside, shaped.deep plan accepted v lt))
      ∙ ap (λ (f : Fields). get_or f.moduli i 0) (sym (shaped.fields_are plan accepted v lt))

  behind_at : (v i : ℕ) → v < plan.nodes → i < count
      → get_or (fields v).moduli (depth + i) 0 ≡ values
  behind_at v i lt inside =
      let own = (all_fields (tree_of plan) plan.modulus v).moduli in
      ap (λ (n : ℕ). get_or (fields v).moduli (n + i) 0)
      (sym (shaped.deep plan accepted v lt))
      ∙ get_or-append-add own (replicate count values) i 0
      ∙ get_or-replicate count i values 0 inside

  abbrev Used : (i : ℕ) → Type 0
  Used i = (v : ℕ) × (v < shape_nodes (shape_with plan values count))
      × (1 ≤ slice_index_or (fields_at (shape_with plan values count) v).moduli i 0)

  used_by : (i v : ℕ) → v < plan.nodes → 1 ≤ get_or (fields v).moduli i 0 → Used i
  used_by i v lt some = (
    v,
    omega (arith, lt, nodes_are),
    subst (λ (f : Fields). 1 ≤ get_or f.moduli i 0) (sym (fields_are v lt)) some,
  )

  used : (i : ℕ) → i < depth + count → Used i
  used i lt = elim (cases_lt i depth) [
    | inl inside ↦
        let node = (shaped.is_shape plan accepted).used i inside in
        let below = node.1 in
        let some = node.2 in
        let v_below : node.0 < plan.nodes = omega (arith, below, shaped.nodes_are plan accepted) in
        used_by i node.0 v_below (subst (λ n. 1 ≤ n) (sym (own_at node.0 i v_below inside)) some)
    | inr over ↦
        let quorum = accepted.quorum in
        let first : 0 < plan.nodes = omega (arith, quorum) in
        let place : i ≡ depth + (i - depth) = omega (arith, over) in
        used_by i 0 first
        (subst (λ n. 1 ≤ n)
        (sym (ap (λ (k : ℕ). get_or (fields 0).moduli k 0) place
        ∙ behind_at 0 (i - depth) first (omega (arith, lt, over)))) (omega (arith, least)))
  ]

  pub is_shape : IsShape (shape_with plan values count)
  is_shape = record { fields = all_limited; used = used }

  -- ---- what its states take

  pub some_bits : (v : ℕ) → v < plan.nodes
      → 0 < bits_in (fields_at (shape_with plan values count) v)
  some_bits v lt =
      let own : Fields = all_fields (tree_of plan) plan.modulus v in
      let some : 0 < bits_in own =
      subst (λ (f : Fields). 0 < bits_in f) (shaped.fields_are plan accepted v lt)
      (some_bits_at plan accepted v lt) in
      subst (λ (f : Fields). 0 < bits_in f) (sym (fields_are v lt))
      (omega (arith, further_bits own values count, some))

  pub few_more : count ≤ 2 → (shape_with plan values count).depth ≤ 342
  few_more few =
      let own = few_registers plan accepted in
      omega (arith, own, few)

-- ---- fields that are made node by node

module _ (plan : HalvingNumbers) where
  abbrev own : (v : ℕ) → Fields
  own v = all_fields (tree_of plan) plan.modulus v

  -- one of the plan's own, by its place
  pub own_is : (all : List Fields) → all ≡ map own (range_with_len 0 plan.nodes) → (v : ℕ)
      (found : Fields) → v < length all → found ≡ get_or all v found
      → (v < plan.nodes) × (found ≡ own v)
  own_is all made v found lt is =
      let below : v < plan.nodes = omega (
        arith,
        lt,
        ap (λ (fs : List Fields). length fs) made,
        length-map-range_with_len own 0 plan.nodes,
      ) in (
        below,
        is ∙ made_at own plan.nodes v found all made below,
      )

  -- all of them with further registers
  pub all_made : (values count v size : ℕ) (all made : List Fields)
      → all ≡ map own (range_with_len 0 plan.nodes) → size ≡ length all → v ≡ size
      → made ≡ map (λ u. with_further (own u) values count) (range_with_len 0 v)
      → made ≡ (shape_with plan values count).fields
  all_made values count v size all made is sized end by_node =
      by_node
      ∙ ap (λ (n : ℕ). map (λ u. with_further (own u) values count) (range_with_len 0 n))
      (end ∙ sized ∙ ap (λ (fs : List Fields). length fs) is
      ∙ length-map-range_with_len own 0 plan.nodes)
