use Rattle.std.proofs.Common.{◌≡◌, ℕ, List, length, All, ap, ap₂, sym, ◌∙◌, subst, arith}
use Rattle.state_codec.specs.Shapes.{Fields, IsShape}
use Rattle.halving_texts.specs.HalvingShapes.{shape_of}
use Rattle.halving_texts.proofs.Shaped.{is_shape, all_deep, nodes_are}
use Rattle.halving_texts.proofs.shapes.shape_of.Goals as goal

pub by_node-requires-clause-few : goal.by_node-requires-clause-few
by_node-requires-clause-few c =
    let plan = c.args.plan.now in
    let most = c.facts.ensures.most_nodes in
    let same : c.deref.result.now ≡ (shape_of plan).fields =
    c.deref.ensures.value ∙ c.in_ok-fields.ensures in
    omega (arith, ap (λ (fs : List Fields). length fs) same, nodes_are plan c.facts.ensures, most)

pub by_node-requires-clause-deep : goal.by_node-requires-clause-deep
by_node-requires-clause-deep c =
    let plan = c.args.plan.now in
    let same : c.deref.result.now ≡ (shape_of plan).fields =
    c.deref.ensures.value ∙ c.in_ok-fields.ensures in
    subst (λ (fs : List Fields). All (λ (f : Fields). length f.moduli ≡ c.depth.result) fs)
    (sym same)
    (subst (λ (n : ℕ). All (λ (f : Fields). length f.moduli ≡ n) (shape_of plan).fields)
    (sym c.depth.ensures) (all_deep plan c.facts.ensures))

pub by_node-requires-clause-shape : goal.by_node-requires-clause-shape
by_node-requires-clause-shape c =
    let plan = c.args.plan.now in
    let same : c.deref.result.now ≡ (shape_of plan).fields =
    c.deref.ensures.value ∙ c.in_ok-fields.ensures in
    subst IsShape (sym (ap₂ (λ (n : ℕ) (fs : List Fields). record { depth = n; fields = fs })
    c.depth.ensures same)) (is_shape plan c.facts.ensures)
