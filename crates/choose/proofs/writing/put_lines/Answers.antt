use Rattle.std.proofs.Common.{ap, arith}
use Rattle.std.specs.List.{flat_map}
use Rattle.std.proofs.lemmas.List.{take_all}
use Rattle.edge_io.proofs.Writing.{writes_at, writes_is, writes_none}
use Rattle.choose.specs.FrontText.{front_line}
use Rattle.choose.proofs.writing.put_lines.Goals as goal

pub loop-i-init : goal.loop-i-init
loop-i-init g c = writes_none

pub loop-i-preserved : goal.loop-i-preserved
loop-i-preserved g c =
    writes_at front_line c.args.plans.now c.loop-i.i c.index-plans-i.result c.loop-i-test.true
    c.loop-i.invariant (writes_is (ap front_line c.index-plans-i.is) c.put_line.ensures)

pub returns : goal.returns
returns g c =
    writes_is (ap (flat_map front_line) (take_all c.loop-i.i c.args.plans.now (omega arith)))
    c.loop-i.invariant
