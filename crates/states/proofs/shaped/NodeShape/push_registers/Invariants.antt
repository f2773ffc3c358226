use Rattle.std.proofs.Common.{◌≡◌, ◌++◌, drop}
use Rattle.std.specs.Prelude.{codes}
use Rattle.state_codec.specs.Shapes.{fields_at}
use Rattle.states.specs.StateTexts.{registers_text, had}
use Rattle.states.proofs.shaped.NodeShape.push_registers.Given as goal

-- what is put already, and what is left to put
abbrev pub invariant-loop-i : goal.invariant-loop-i
invariant-loop-i l =
    let moduli = (fields_at l.self.shape.now l.self.node).moduli in
    l.out.items ++ registers_text l.before (had (drop l.i moduli) (drop l.i l.state.registers))
    ≡ l.fn.out.items ++ registers_text (codes " registers") (had moduli l.state.registers)
