use Rattle.texts.specs.Lines.{lines_of}
use Rattle.state_codec.specs.Shapes.{shape_nodes}
use Rattle.adversary_script.proofs.ReadScripts.{read_fits, read_has_eras}
use Rattle.adversary_script.proofs.reading.read_script_for.Goals as goal

pub returns-clause-borne : goal.returns-clause-borne
returns-clause-borne c =
    read_fits (shape_nodes c.args.shape.now) c.args.faults c.args.shape.now c.facts.ensures
    c.args.first_line (lines_of c.args.bytes.now) _ c.read_exactly.ensures

pub returns-clause-eras : goal.returns-clause-eras
returns-clause-eras c =
    read_has_eras (shape_nodes c.args.shape.now) c.args.faults c.args.shape.now c.facts.ensures
    c.args.first_line (lines_of c.args.bytes.now) _ c.read_exactly.ensures
