use Rattle.std.proofs.Common.{Result, subst}
use Rattle.std.specs.Prelude.{IfOk}
use Rattle.texts.specs.Lines.{lines_of}
use Rattle.texts.specs.Parts.{Found, At}
use Rattle.sync_types.specs.declared.answers.Rule.{Rule}
use Rattle.consensus_layer.specs.AgreeContent.{AgreeContent}
use Rattle.consensus_layer.specs.AgreePart.{IsForNumbers}
use Rattle.consensus_layer.proofs.FitInputs.{inputs_fit_over}
use Rattle.consensus_layer.proofs.reading.read_agree_over.Goals as goal

pub new-requires-2 : goal.new-requires-2
new-requires-2 c =
    subst (λ (r : Result (Found AgreeContent) (At Rule)). IfOk r
    (λ found. IsForNumbers c.args.numbers.now found.value))
    (rw c.new.ensures at c.in_ok-read.ensures.exact)
    (inputs_fit_over c.args.numbers.now c.args.first_line (lines_of c.args.bytes.now))
