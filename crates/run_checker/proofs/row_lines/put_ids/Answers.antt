use Rattle.std.proofs.Common.{ap, ◌∙◌, arith}
use Rattle.std.specs.List.{flat_map}
use Rattle.std.proofs.lemmas.List.{take_all}
use Rattle.edge_io.proofs.Writing.{writes_none, writes_at, writes_is}
use Rattle.run_checker.specs.RunLines.{number_word}
use Rattle.run_checker.proofs.row_lines.put_ids.Goals as goal

pub loop-i-init : goal.loop-i-init
loop-i-init g c = writes_none

pub loop-i-preserved : goal.loop-i-preserved
loop-i-preserved g c =
    writes_at number_word c.args.faulty.now.ids c.loop-i.i 0
    (omega (arith, c.loop-i-test.true, c.len-i-end.ensures.exact)) c.loop-i.invariant
    (writes_is (ap number_word (c.from-id.ensures ∙ c.at.ensures.id)) c.pieces.ensures)

pub returns : goal.returns
returns g c =
    let all = take_all c.loop-i.i c.args.faulty.now.ids
    (omega (arith, c.loop-i-test.false, c.len-i-end.ensures.exact)) in
    writes_is (ap (flat_map number_word) all) c.loop-i.invariant
