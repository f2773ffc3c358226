use Rattle.std.proofs.Common.{ap, ◌∙◌, arith}
use Rattle.std.specs.List.{flat_map}
use Rattle.std.proofs.lemmas.List.{take_all}
use Rattle.edge_io.proofs.Writing.{writes_none, writes_at, writes_is, writes_then}
use Rattle.run_pictures.specs.Choices.{point_line}
use Rattle.run_pictures.proofs.choice_pictures.ChoiceFigure.put_text.Goals as goal

pub loop-i-init : goal.loop-i-init
loop-i-init g c = writes_none

pub loop-i-preserved : goal.loop-i-preserved
loop-i-preserved g c =
    writes_at point_line c.deref-points.result.now c.loop-i.i _ c.loop-i-test.true
    c.loop-i.invariant (writes_then c.put_point_words.ensures c.text.ensures)

pub returns : goal.returns
returns g c =
    writes_is
    (ap (flat_map point_line) (take_all c.loop-i.i c.deref-points.result.now (omega arith)
    ∙ c.deref-points.ensures.value)) c.loop-i.invariant
