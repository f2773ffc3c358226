use Rattle.std.proofs.lemmas.Fmt.{decimal_digit}
use Rattle.edge_io.proofs.writer.Writer.hold_number.Goals as goal

pub returns-then-value-lt10-clause-wrote : goal.returns-then-value-lt10-clause-wrote
returns-then-value-lt10-clause-wrote g c =
    rw (decimal_digit c.args.value c.if-value-lt10.true) c.hold_byte.ensures.wrote

pub returns-else-value-lt10-clause-wrote : goal.returns-else-value-lt10-clause-wrote
returns-else-value-lt10-clause-wrote g c =
    rw (← c.format.ensures.text) (rw (← c.as_bytes.ensures.value) c.hold_all.ensures.wrote)
