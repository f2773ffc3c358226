use Rattle.std.proofs.Common.{◌≡◌, drop}
use Rattle.state_codec.specs.Shapes.{fields_at}
use Rattle.states.specs.StateWords.{has_register}
use Rattle.states.proofs.shaped.NodeShape.has_registers.Given as goal

abbrev pub invariant-loop-i : goal.invariant-loop-i
invariant-loop-i l =
    let moduli = (fields_at l.self.shape.now l.self.node).moduli in
    has_register (drop l.i moduli) ≡ has_register moduli
