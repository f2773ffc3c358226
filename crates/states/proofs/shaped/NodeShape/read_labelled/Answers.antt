use Rattle.std.proofs.Common.{◌∙◌, ◌++◌, sym, ap}
use Rattle.std.specs.Prelude.{option_map, option_to_list}
use Rattle.state_codec.specs.Shapes.{fields_at}
use Rattle.states.specs.StateWords.{labelled_said, with_number}
use Rattle.states.proofs.SaidRegisters.{no_registers}
use Rattle.states.proofs.shaped.NodeShape.read_labelled.Goals as goal

pub returns-in-Some : goal.returns-in-Some
returns-in-Some c =
    let self = c.args.self.now in
    let moduli = (fields_at self.shape.now self.node).moduli in
    let none = sym c.if-not-has_registers.ensures in
    sym (ap (λ taken. with_number 0 (labelled_said moduli
    (option_to_list (option_map (λ word. word.now) taken) ++ c.args.words.now))) c.in-Some.is
    ∙ rw none (ap (with_number 0)
    (no_registers moduli c.in-Some.field-0.now c.args.words.now none)))
