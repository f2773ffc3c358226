use Rattle.std.proofs.Common.{◌∙◌, ap, sym, Some}
use Rattle.halving_texts.specs.Reading.{differs_at}
use Rattle.halving_texts.proofs.Compared.{compared_is}
use Rattle.halving_texts.proofs.table_reading.read_table.Goals as goal

pub returns : goal.returns
returns c =
    let text = c.args.text.now in
    compared_is text c.in-Some.plan (Some c.in-Some-differs_at.line) (sym c.in-Some.ensures)
    (ap (differs_at 1 text) (sym (c.taken.ensures ∙ c.in_ok-table.ensures.table))
    ∙ sym c.in-Some-differs_at.ensures)
