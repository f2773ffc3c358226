use Rattle.std.proofs.Common.{ℕ, ◌+◌, sym, subst, ◌∙◌, arith}
use Rattle.trace.proofs.HalvingNodesTraced.{has_round, at_more, desk_here, desk_back, nodes_here}
use Rattle.trace.proofs.HalvingNodesTraced.{text, text_is}
use Rattle.trace.proofs.WordsSoFar.{SoFar, so_far_all, so_far_more, so_far_none, so_far_stop}
use Rattle.trace.proofs.halving_tracing.put_moments.Goals as goal

pub loop-init : goal.loop-init
loop-init g c = record {
  here = c.play.ensures;
  so_far = subst (λ (t : ℕ). SoFar g.K.Sink.told
      (text c.args.runner.now c.args.nodes.now c.args.want.first) c.args.want.first
      c.args.want.last t c.args.writer.now c.args.writer.now) (sym c.first-first.ensures)
      (so_far_none g.K.Sink.told (text c.args.runner.now c.args.nodes.now c.args.want.first)
      c.args.want.first c.args.want.last c.args.writer.now);
  desk = c.requires.desk;
}

pub put_moment-requires-clause-nodes : goal.put_moment-requires-clause-nodes
put_moment-requires-clause-nodes g c =
    nodes_here c.args.runner.now c.loop.counter _ c.loop.invariant.here c.args.nodes.now
    c.requires.nodes

pub put_moment-requires-clause-desk : goal.put_moment-requires-clause-desk
put_moment-requires-clause-desk g c =
    desk_here c.args.runner.now c.loop.counter _ c.loop.invariant.here _ c.loop.invariant.desk

pub returns-then-has_failed : goal.returns-then-has_failed
returns-then-has_failed g c =
    let start = c.args.runner.now in
    let nodes = c.args.nodes.now in
    let first = c.args.want.first in
    let last = c.args.want.last in
    let t = c.loop.counter in
    let inv = c.loop.invariant in
    let more = so_far_more g.K.Sink.told (text start nodes first) first last t _ _ inv.so_far _ _
    (text_is start nodes first t _ inv.here inv.so_far.from) c.put_moment.ensures.lines in
    so_far_stop g.K.Sink.told (text start nodes first) first last (t + 1) _ _ more
    (omega (arith, c.loop-test.true, c.last-last.ensures.value))
    (sym c.has_failed.ensures ∙ c.if-has_failed.true)

pub round-requires : goal.round-requires
round-requires g c =
    let here = c.put_moment.ensures.same ∙ c.loop.invariant.here in
    has_round c.args.runner.now c.loop.counter _ here
    (omega (arith, c.loop-test.true, c.last-last.ensures.value, c.requires.within))

pub loop-preserved : goal.loop-preserved
loop-preserved g c =
    let start = c.args.runner.now in
    let nodes = c.args.nodes.now in
    let first = c.args.want.first in
    let t = c.loop.counter in
    let inv = c.loop.invariant in
    let here = c.put_moment.ensures.same ∙ inv.here in
    record {
      here = at_more start t _ here _ c.round.ensures;
      so_far = so_far_more g.K.Sink.told (text start nodes first) first c.args.want.last t _ _
          inv.so_far _ _
          (text_is start nodes first t _ inv.here inv.so_far.from) c.put_moment.ensures.lines;
      desk = desk_back start t _ inv.here _ c.put_moment.ensures.desk;
    }

pub put_moment-requires-2-clause-nodes : goal.put_moment-requires-2-clause-nodes
put_moment-requires-2-clause-nodes g c =
    nodes_here c.args.runner.now c.loop.counter _ c.loop.invariant.here c.args.nodes.now
    c.requires.nodes

pub put_moment-requires-2-clause-desk : goal.put_moment-requires-2-clause-desk
put_moment-requires-2-clause-desk g c =
    desk_here c.args.runner.now c.loop.counter _ c.loop.invariant.here _ c.loop.invariant.desk

pub returns : goal.returns
returns g c =
    let start = c.args.runner.now in
    let nodes = c.args.nodes.now in
    let first = c.args.want.first in
    let last = c.args.want.last in
    let t = c.loop.counter in
    let inv = c.loop.invariant in
    so_far_all g.K.Sink.told (text start nodes first) first last (t + 1) _ _
    (so_far_more g.K.Sink.told (text start nodes first) first last t _ _ inv.so_far _ _
    (text_is start nodes first t _ inv.here inv.so_far.from) c.put_moment-2.ensures.lines)
    (omega (
      arith,
      c.loop.auto.counter-end,
      c.loop-test.false,
      c.first-first.ensures,
      c.last-last.ensures.value,
      c.last-last.ensures.order,
    ))
