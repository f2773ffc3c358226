use Rattle.std.proofs.Common.{◌≡◌, ℕ, ◌-◌, ◌<◌, ◌≤◌, ◌∙◌, List, Option, length, get_or, sym, ap}
use Rattle.std.proofs.Common.{arith}
use Rattle.std.specs.Prelude.{unwrap_or}
use Rattle.std.proofs.lemmas.List.{take_all}
use Rattle.std.proofs.lemmas.Option.{unwrap_or-slice_get}
use Rattle.halving_plan.specs.Steps.{tree_depth}
use Rattle.halving_plan.specs.Runs.{fields_in, all_fields}
use Rattle.halving_plan.specs.Plans.{tree_of}
use Rattle.halving_plan.proofs.Kept.{all_long}
use Rattle.halving_plan.proofs.Made.{filled_at, one_more}
use Rattle.halving_plan.proofs.making.node_moduli.Goals as goal

pub loop-i-preserved : goal.loop-i-preserved
loop-i-preserved c =
    let plan = c.args.plan.now in
    let tree = tree_of plan in
    let v = c.args.node in
    let i = c.loop-i.i in
    let own : List ℕ = (fields_in tree plan.modulus v).moduli in
    let all : List ℕ = (all_fields tree plan.modulus v).moduli in
    let lt : i < length all =
    omega (arith, all_long plan c.facts.ensures v, c.loop-i-test.true, c.depth-depth.ensures) in
    let read : c.unwrap_or.result ≡ get_or all i 0 =
    c.unwrap_or.ensures
    ∙ (ap (λ (o : Option ℕ). unwrap_or o 0) c.modulus_of.ensures
    ∙ (unwrap_or-slice_get own i 0 ∙ sym (filled_at own (tree_depth tree - length own) i))) in
    c.in_ok-push.ensures.items
    ∙ one_more all c.loop-i.moduli.items i c.unwrap_or.result lt c.loop-i.invariant read

pub returns : goal.returns
returns c =
    let plan = c.args.plan.now in
    let all : List ℕ = (all_fields (tree_of plan) plan.modulus c.args.node).moduli in
    let end : length all ≤ c.loop-i.i =
    omega (
      arith,
      all_long plan c.facts.ensures c.args.node,
      c.loop-i-test.false,
      c.depth-depth.ensures,
    ) in
    c.loop-i.invariant ∙ take_all c.loop-i.i all end
