use Rattle.std.proofs.Common.{◌≡◌, take, drop, length}
use Rattle.state_codec.specs.Shapes.{fields_at}
use Rattle.states.specs.StateWords.{registers_said}
use Rattle.states.proofs.SaidRegisters.{onto}
use Rattle.states.proofs.shaped.NodeShape.read_registers.Given as goal

abbrev pub invariant-loop-i : goal.invariant-loop-i
invariant-loop-i l =
    let moduli = (fields_at l.self.shape.now l.self.node).moduli in
    record {
      depth : length l.state.registers ≡ l.self.shape.now.depth;
      x : l.state.x ≡ 0;
      so_far : onto (take l.i l.state.registers)
          (registers_said (drop l.i moduli) l.further l.words)
          ≡ registers_said moduli l.fn.first l.fn.words;
    }
