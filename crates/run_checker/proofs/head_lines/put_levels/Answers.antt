use Rattle.std.proofs.Common.{reverse, ap, sym, arith}
use Rattle.std.specs.List.{flat_map}
use Rattle.std.proofs.lemmas.List.{take_all, length-reverse}
use Rattle.edge_io.proofs.Writing.{writes_none, writes_at, writes_is}
use Rattle.run_checker.specs.RunLines.{level_line}
use Rattle.run_checker.proofs.LevelLines.{within, here}
use Rattle.run_checker.proofs.head_lines.put_levels.Goals as goal

pub loop-i-init : goal.loop-i-init
loop-i-init g c = writes_none

pub loop-i-preserved : goal.loop-i-preserved
loop-i-preserved g c =
    let plan = c.args.plan.now in
    let at = c.level.ensures.value in
    writes_at (level_line c.args.version) (reverse plan.levels) c.loop-i.i _
    (within plan c.loop-i.i _ at) c.loop-i.invariant
    (writes_is (ap (level_line c.args.version) (sym (here plan c.loop-i.i _ at)))
    c.put_level.ensures)

pub returns : goal.returns
returns g c =
    let levels = reverse c.args.plan.now.levels in
    let all = take_all c.loop-i.i levels (omega (
      arith,
      c.loop-i-test.false,
      c.depth-i-end.ensures.value,
      length-reverse c.args.plan.now.levels,
    )) in
    writes_is (ap (flat_map (level_line c.args.version)) all) c.loop-i.invariant
