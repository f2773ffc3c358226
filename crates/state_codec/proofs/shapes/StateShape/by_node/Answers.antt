use Rattle.std.proofs.Common.{rules, arith, ◌≡◌, ◌<◌, ◌+◌, List, [], ◌∷◌, ◌++◌, ℕ}
use Rattle.std.proofs.Common.{length, get_or, sym, subst}
use Rattle.state_codec.specs.Shapes.{Fields}
use Rattle.state_codec.proofs.Grouping.{IsGrouped, grouped_more}
use Rattle.state_codec.proofs.shapes.StateShape.by_node.Goals as goal

pub loop-v-preserved : goal.loop-v-preserved
loop-v-preserved c =
    let v : ℕ = c.loop-v.v in
    let own : Fields = c.index-nodes-v.result in
    let lt : v < length c.args.nodes.now = omega (arith, c.loop-v-test.true) in
    let is : own ≡ get_or c.args.nodes.now v own = c.index-nodes-v.is in
    let more = grouped_more c.args.depth c.args.nodes.now c.requires.deep c.loop-v.kinds.items
    c.kind_among.new.kinds.items c.loop-v.which.items v c.in_ok-kind.kind own c.loop-v.invariant
    c.in_ok-kind.ensures.grown c.in_ok-kind.ensures.within c.in_ok-kind.ensures.same lt is in
    let pushed : c.push.new.self.items ≡ c.loop-v.which.items ++ c.in_ok-kind.kind ∷ [] =
    search rules in
    subst (λ (which : List ℕ). IsGrouped c.args.depth c.args.nodes.now
    c.kind_among.new.kinds.items which (v + 1)) (sym pushed) more
