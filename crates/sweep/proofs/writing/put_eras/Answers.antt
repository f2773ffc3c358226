use Rattle.std.proofs.Common.{ap, arith}
use Rattle.std.specs.List.{flat_map}
use Rattle.std.proofs.lemmas.List.{take_all}
use Rattle.edge_io.proofs.Writing.{writes_at, writes_is, writes_none}
use Rattle.sweep.specs.Tallies.{runs_text}
use Rattle.sweep.proofs.writing.put_eras.Goals as goal

pub loop-j-init : goal.loop-j-init
loop-j-init g c = writes_none

pub loop-j-preserved : goal.loop-j-preserved
loop-j-preserved g c =
    writes_at runs_text c.args.tally.now c.loop-j.j c.index-tally-j.result c.loop-j-test.true
    c.loop-j.invariant (writes_is (ap runs_text c.index-tally-j.is) c.put_era.ensures)

pub returns : goal.returns
returns g c =
    writes_is (ap (flat_map runs_text) (take_all c.loop-j.j c.args.tally.now (omega arith)))
    c.loop-j.invariant
