use Rattle.std.proofs.Common.{◌<◌, ◌+◌, ◌*◌, length, get_or, arith}
use Rattle.std.specs.Prelude.{None}
use Rattle.plan_finder.proofs.Sets.{faults_more, in_rows}
use Rattle.plan_finder.proofs.choosing.best_with.Goals as goal

pub loop-n-preserved : goal.loop-n-preserved
loop-n-preserved c =
    let narrow : c.args.f < c.args.rows.now.width = omega (arith, c.if-f-rows.false) in
    let inside : c.loop-n.n * c.args.rows.now.width + c.args.f < length c.args.rows.now.cells.now =
    omega (
      arith,
      in_rows c.loop-n.n c.args.f c.args.rows.now.width (c.args.rows.now.most + 1) narrow
          c.loop-n-test.true,
      c.requires.size,
    ) in
    faults_more c.args.rows.now.most c.args.f c.loop-n.n c.loop-n.best
    (get_or c.args.rows.now.cells.now (c.loop-n.n * c.args.rows.now.width + c.args.f) None)
    c.lesser-best.result
    c.loop-n.invariant (c.args.rows.now.best.best c.loop-n.n c.args.f narrow inside)
    c.lesser-best.ensures
