use Rattle.std.proofs.Common.{ap}
use Rattle.std.specs.Prelude.{codes}
use Rattle.construction.specs.Plans.{Plan}
use Rattle.plan_certificate.specs.TableLines.{table_of}
use Rattle.outcomes.specs.Inputs.{in_table, or_refusal}
use Rattle.outcomes.specs.Answers.{text_by}
use Rattle.answers.proofs.Unwritten.{refuses_table, refuses_text, unread, unwritten}
use Rattle.answers.proofs.words.table.Goals as goal

pub returns-in_err-read_table : goal.returns-in_err-read_table
returns-in_err-read_table g c =
    unread g.K.Sink.told _ _ _ _
    (refuses_text (λ (p : Plan). codes "true\n") _ (or_refusal in_table (table_of c.args.input.now))
    (refuses_table _ _ c.in_err-read_table.ensures))
    c.from_residual.ensures.1

pub returns-in_err-put_all : goal.returns-in_err-put_all
returns-in_err-put_all g c =
    unwritten g.K.Sink.told _ _ _ _ _
    (ap (λ r. text_by (λ (p : Plan). codes "true\n") (or_refusal in_table r))
    c.in_ok-read_table.ensures)
    c.from_residual-in_err-put_all.ensures.1 c.in_err-put_all.ensures

pub returns : goal.returns
returns g c = rw c.in_ok-read_table.ensures c.in_ok-put_all.ensures
