use Rattle.std.proofs.Common.{sym, ◌∙◌, arith}
use Rattle.counter_core.proofs.Heeded.{place_of}
use Rattle.consensus_layer.proofs.heeding.liar_at.Goals as goal

-- past the last place none of them is the node
pub returns-after-loop-j-clause-enough : goal.returns-after-loop-j-clause-enough
returns-after-loop-j-clause-enough c = λ v config inside heard told first second alike.
    let p = place_of c.args.faulty.now.ids c.args.node
    (sym c.contains.ensures ∙ c.if-contains.true) in
    absurd (c.loop-j.invariant p.0
    (let lt = p.1 in omega (arith, lt, c.loop-j-test.false, c.len-j-end.ensures.exact)) p.2)
