use Rattle.std.proofs.Common.{ℕ, ◌+◌, ◌≤◌, arith}
use Rattle.edge_io.proofs.Writing.{writes_none}
use Rattle.run_pictures.specs.Pictures.{era_begin}
use Rattle.run_pictures.proofs.Bounds.{bound_behind}
use Rattle.run_pictures.proofs.marks.put_bound_mark.Goals as goal

pub returns-else-chart-behind : goal.returns-else-chart-behind
returns-else-chart-behind g c =
    let chart = c.args.chart.now in
    let t : ℕ = era_begin c.args.end.era + chart.bound in
    let far : chart.first + chart.rows ≤ t = omega (arith, c.if-chart-behind.false) in
    rw (bound_behind chart t c.args.end.next far) writes_none

pub returns-then-chart-behind : goal.returns-then-chart-behind
returns-then-chart-behind g c = rw c.era_begin.ensures.value at c.put_bound_at.ensures
