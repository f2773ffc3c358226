use Rattle.std.proofs.Common.{ap, arith}
use Rattle.std.specs.List.{flat_map}
use Rattle.std.proofs.lemmas.List.{take_all}
use Rattle.edge_io.proofs.Writing.{writes_none, writes_at, writes_is}
use Rattle.plan_finder.specs.FindText.{pot_line}
use Rattle.plan_finder.proofs.writing.put_pots.Goals as goal

pub loop-i-init : goal.loop-i-init
loop-i-init g c = writes_none

pub loop-i-preserved : goal.loop-i-preserved
loop-i-preserved g c =
    writes_at pot_line c.args.pots.now c.loop-i.i _ c.loop-i-test.true c.loop-i.invariant
    c.put_pot.ensures

pub returns : goal.returns
returns g c =
    writes_is (ap (flat_map pot_line) (take_all c.loop-i.i c.args.pots.now (omega arith)))
    c.loop-i.invariant
