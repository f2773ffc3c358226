use Rattle.std.proofs.Common.{◌∙◌, sym, ap, arith}
use Rattle.std.proofs.lemmas.List.{drop_all}
use Rattle.state_codec.specs.Shapes.{fields_at}
use Rattle.state_codec.proofs.Lows.{depth_at}
use Rattle.states.specs.StateWords.{has_register}
use Rattle.states.proofs.shaped.NodeShape.has_registers.Goals as goal

pub returns : goal.returns
returns c =
    let self = c.args.self.now in
    let moduli = (fields_at self.shape.now self.node).moduli in
    sym (ap has_register (drop_all c.loop-i.i moduli
    (omega (
      arith,
      depth_at self.shape.now self.node,
      c.loop-i-test.false,
      c.depth-i-end.ensures,
    ))))
    ∙ c.loop-i.invariant
