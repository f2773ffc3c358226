use Rattle.std.proofs.Common.{rules, ◌≡◌, ◌++◌, [], ◌∷◌, ℕ, ◌+◌, ◌≤◌, List, length, All, ap, ap₂}
use Rattle.std.proofs.Common.{sym, ◌∙◌, subst, arith}
use Rattle.std.proofs.lemmas.Result.{IfOk-weaker}
use Rattle.state_codec.specs.Shapes.{Fields, IsShape, bits_in, with_further}
use Rattle.state_codec.proofs.Lows.{made_more}
use Rattle.halving_plan.proofs.FewBits.{few_bits}
use Rattle.halving_plan.specs.Runs.{all_fields}
use Rattle.halving_plan.specs.Plans.{tree_of}
use Rattle.halving_texts.proofs.Shaped.{deep}
use Rattle.halving_texts.proofs.PlanBits.{few_registers}
use Rattle.halving_runs.specs.LayerShapes.{shape_with}
use Rattle.halving_runs.proofs.LayerShaped as law
use Rattle.halving_runs.proofs.layer_shapes.shape_with.Goals as goal

pub fields_with-requires-clause-depth : goal.fields_with-requires-clause-depth
fields_with-requires-clause-depth c =
    let plan = c.args.plan.now in
    let own = law.own_is plan c.in_ok-own.own.items c.in_ok-own.ensures c.loop-v.v
    c.index.result.now (omega (arith, c.loop-v-test.true, c.len-v-end.ensures)) c.index.ensures in
    ap (λ (f : Fields). length f.moduli) own.1
    ∙ deep plan c.facts.ensures c.loop-v.v own.0 ∙ sym c.depth-depth.ensures

pub fields_with-requires-clause-small : goal.fields_with-requires-clause-small
fields_with-requires-clause-small c =
    let plan = c.args.plan.now in
    let own = law.own_is plan c.in_ok-own.own.items c.in_ok-own.ensures c.loop-v.v
    c.index.result.now (omega (arith, c.loop-v-test.true, c.len-v-end.ensures)) c.index.ensures in
    subst (λ (f : Fields). bits_in f ≤ 464) (sym own.1)
    (few_bits plan c.facts.ensures c.loop-v.v)

pub loop-v-preserved : goal.loop-v-preserved
loop-v-preserved c =
    let plan = c.args.plan.now in
    let own = law.own_is plan c.in_ok-own.own.items c.in_ok-own.ensures c.loop-v.v
    c.index.result.now (omega (arith, c.loop-v-test.true, c.len-v-end.ensures)) c.index.ensures in
    let pushed : c.push.new.self.items ≡ c.loop-v.fields.items ++ c.in_ok-more.more ∷ [] =
    search rules in
    pushed
    ∙ made_more
    (λ v. with_further (all_fields (tree_of plan) plan.modulus v) c.args.values c.args.count)
    c.loop-v.v c.in_ok-more.more c.loop-v.fields.items c.loop-v.invariant
    (c.in_ok-more.ensures ∙ ap (λ (f : Fields). with_further f c.args.values c.args.count) own.1)

pub by_node-requires-clause-few : goal.by_node-requires-clause-few
by_node-requires-clause-few c =
    let plan = c.args.plan.now in
    let most = c.facts.ensures.most_nodes in
    let made = law.all_made plan c.args.values c.args.count c.loop-v.v c.len-v-end.result
    c.in_ok-own.own.items c.loop-v.fields.items c.in_ok-own.ensures
    (omega (arith, c.len-v-end.ensures))
    (omega (arith, c.loop-v-test.false, c.loop-v.auto.v-end)) c.loop-v.invariant in
    omega (
      arith,
      ap (λ (fs : List Fields). length fs) (c.deref.ensures.value ∙ made),
      law.nodes_are plan c.facts.ensures c.args.values c.args.count c.requires.least
          c.requires.most,
      most,
    )

pub by_node-requires-clause-deep : goal.by_node-requires-clause-deep
by_node-requires-clause-deep c =
    let plan = c.args.plan.now in
    let made = law.all_made plan c.args.values c.args.count c.loop-v.v c.len-v-end.result
    c.in_ok-own.own.items c.loop-v.fields.items c.in_ok-own.ensures
    (omega (arith, c.len-v-end.ensures))
    (omega (arith, c.loop-v-test.false, c.loop-v.auto.v-end)) c.loop-v.invariant in
    subst (λ (fs : List Fields).
    All (λ (f : Fields). length f.moduli ≡ c.depth-depth.result + c.args.count) fs)
    (sym (c.deref.ensures.value ∙ made))
    (subst (λ (n : ℕ). All (λ (f : Fields). length f.moduli ≡ n + c.args.count)
    (shape_with plan c.args.values c.args.count).fields) (sym c.depth-depth.ensures)
    (law.all_deep plan c.facts.ensures c.args.values c.args.count c.requires.least
    c.requires.most))

pub by_node-requires-clause-shape : goal.by_node-requires-clause-shape
by_node-requires-clause-shape c =
    let plan = c.args.plan.now in
    let made = law.all_made plan c.args.values c.args.count c.loop-v.v c.len-v-end.result
    c.in_ok-own.own.items c.loop-v.fields.items c.in_ok-own.ensures
    (omega (arith, c.len-v-end.ensures))
    (omega (arith, c.loop-v-test.false, c.loop-v.auto.v-end)) c.loop-v.invariant in
    subst IsShape
    (sym (ap₂ (λ (n : ℕ) (fs : List Fields). record { depth = n + c.args.count; fields = fs })
    c.depth-depth.ensures (c.deref.ensures.value ∙ made)))
    (law.is_shape plan c.facts.ensures c.args.values c.args.count c.requires.least
    c.requires.most)

pub returns : goal.returns
returns c =
    let made = law.all_made c.args.plan.now c.args.values c.args.count c.loop-v.v
    c.len-v-end.result c.in_ok-own.own.items c.loop-v.fields.items c.in_ok-own.ensures
    (omega (arith, c.len-v-end.ensures)) (omega (arith, c.loop-v-test.false, c.loop-v.auto.v-end))
    c.loop-v.invariant in
    IfOk-weaker c.by_node.result _ _ (λ shape is. is
    ∙ ap₂ (λ (n : ℕ) (fs : List Fields). record { depth = n + c.args.count; fields = fs })
    c.depth-depth.ensures (c.deref.ensures.value ∙ made)) c.by_node.ensures

pub overflow_add-depth : goal.overflow_add-depth
overflow_add-depth c =
    omega (
      arith,
      few_registers c.args.plan.now c.facts.ensures,
      c.depth-depth.ensures,
      c.requires.few,
    )
