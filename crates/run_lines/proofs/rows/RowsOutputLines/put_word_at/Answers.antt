use Rattle.std.proofs.Common.{ℕ, List, ◌∷◌, ◌∙◌, sym, ap}
use Rattle.std.proofs.lemmas.Fmt.{decimal_digit}
use Rattle.edge_io.proofs.Writing.{writes_is}
use Rattle.run_lines.specs.RunTexts.{number_word}
use Rattle.run_lines.proofs.rows.RowsOutputLines.put_word_at.Goals as goal

pub returns-then-value-lt10 : goal.returns-then-value-lt10
returns-then-value-lt10 g c =
    let digit = decimal_digit c.value-value.result c.if-value-lt10.true in
    writes_is (ap (λ (digits : List ℕ). 32 ∷ digits) (sym digit)
    ∙ ap number_word c.value-value.ensures) c.text.ensures
