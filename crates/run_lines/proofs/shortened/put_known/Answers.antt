use Rattle.std.proofs.Common.{sym, ap, ap₂, ◌∙◌}
use Rattle.std.specs.Prelude.{is_some}
use Rattle.run_lines.specs.PlayedTexts.{numbered}
use Rattle.edge_io.proofs.Writing.{writes_is}
use Rattle.run_lines.proofs.RestBehind.{own_line}
use Rattle.run_lines.proofs.shortened.put_known.Goals as goal

pub put_if_shown-requires : goal.put_if_shown-requires
put_if_shown-requires g c =
    c.new.ensures ∙ ap₂ numbered c.label.ensures.value c.at.ensures

pub returns-in-None : goal.returns-in-None
returns-in-None g c = λ began plays.
    let none = sym c.counted.ensures.some ∙ ap is_some c.in-None.is in
    writes_is (own_line (g.L.Lines.wording c.args.lines.now) c.args.runner.now began plays
    c.args.end (c.requires.own none)) c.put_if_shown.ensures
