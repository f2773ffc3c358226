use Rattle.std.proofs.Common.{Result, subst}
use Rattle.std.specs.Prelude.{IfOk}
use Rattle.texts.specs.Lines.{lines_of}
use Rattle.texts.specs.Parts.{Found, At}
use Rattle.sync_types.specs.declared.answers.Rule.{Rule}
use Rattle.replicated_log.specs.LogContent.{LogContent}
use Rattle.replicated_log.specs.LogPart.{IsForNumbers}
use Rattle.replicated_log.proofs.FitLogs.{log_fits_over}
use Rattle.replicated_log.proofs.reading.read_log_over.Goals as goal

pub new-requires-2 : goal.new-requires-2
new-requires-2 c = record {
  said = subst
      (λ (r : Result (Found LogContent) (At Rule)). IfOk r
      (λ found. IsForNumbers c.args.numbers.now found.value))
      (rw c.new.ensures at c.in_ok-read.ensures.exact)
      (log_fits_over c.args.numbers.now c.args.first_line (lines_of c.args.bytes.now));
}
