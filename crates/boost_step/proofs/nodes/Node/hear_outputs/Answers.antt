use Rattle.std.proofs.Common.{◌≡◌, ◌+◌, ◌*◌, ◌%◌, map, take, length, ap, sym, ◌∙◌, arith}
use Rattle.std.specs.List.{range_with_len}
use Rattle.std.proofs.lemmas.List.{length-set}
use Rattle.construction.specs.Steps.{state_of}
use Rattle.boost_step.specs.Groups.{counter_below}
use Rattle.boost_step.specs.Numbers.{in_blocks}
use Rattle.boost_step.proofs.Numbers.{related}
use Rattle.boost_step.proofs.Stepping.{place_more, output_more}
use Rattle.boost_step.proofs.nodes.Node.hear_outputs.Goals as goal

pub loop-u-preserved : goal.loop-u-preserved
loop-u-preserved g c =
    let m = g.A.Counter.meaning c.args.self.now.inner.now in
    let heard = c.args.self.now.heard.now in
    let u = c.loop-u.u in
    let i = c.loop-u.invariant in
    let items = c.loop-u.work.outputs.items in
    let test = c.loop-u-test.true in
    let nums = c.args.self.now.nums.now in
    let whole = (related nums (counter_below m, c.args.self.now.numbers)).nodes in
    let blocks = ap (λ n. nums.blocks * n) c.block_nodes.ensures in
    let test_end = c.loop-u.auto.u-end in
    let room = c.requires.room in
    let kept = i.room.outputs in
    record {
      place = place_more c.loop-u.place c.nodes-n.result m.nodes u c.after-place.result
          c.nodes-n.ensures i.place c.after-place.ensures;
      outputs = ap (take (u + 1)) c.set_inner.ensures.outputs
          ∙ output_more (λ v. m.shows (v % m.nodes) (state_of heard v)) u c.output.result items
          (omega arith) i.outputs
          (c.output.ensures ∙ (ap (m.shows c.loop-u.place) c.state.ensures
          ∙ ap (λ p. m.shows p (state_of heard u)) i.place));
      room = record {
        outputs = ap length c.set_inner.ensures.outputs
            ∙ (length-set items u c.output.result ∙ i.room.outputs);
        values = ap (λ t. t.capacity) c.set_inner.ensures.values ∙ i.room.values;
        votes = ap (λ v. length v.items) c.set_inner.ensures.votes ∙ i.room.votes;
      };
    }

pub block_nodes-requires : goal.block_nodes-requires
block_nodes-requires g c =
    (related c.args.self.now.nums.now
    (counter_below (g.A.Counter.meaning c.args.self.now.inner.now), c.args.self.now.numbers)).sized

pub returns-clause-outputs : goal.returns-clause-outputs
returns-clause-outputs g c =
    let m = g.A.Counter.meaning c.args.self.now.inner.now in
    let heard = c.args.self.now.heard.now in
    let nums = c.args.self.now.nums.now in
    let items = c.loop-u.work.outputs.items in
    let end : c.loop-u.u ≡ nums.blocks * c.block_nodes.result =
    omega (arith, c.loop-u-test.false, c.loop-u.auto.u-end) in
    let all : c.loop-u.u ≡ in_blocks nums = end ∙ ap (λ n. nums.blocks * n) c.block_nodes.ensures in
    ap (λ k. take k items) (sym all)
    ∙ (c.loop-u.invariant.outputs
    ∙ ap (λ k. map (λ u. m.shows (u % m.nodes) (state_of heard u)) (range_with_len 0 k)) all)
