use Rattle.std.proofs.lemmas.List.Elements.{All-more}
use Rattle.picture_parts.specs.Moduli.{IsBelow}
use Rattle.run_pictures.proofs.laid.are_below.Goals as goal

pub loop-k-preserved : goal.loop-k-preserved
loop-k-preserved c =
    All-more (λ cell. IsBelow c.args.modulus cell.shown) c.args.cells.now c.loop-k.k _
    c.loop-k-test.true c.loop-k.invariant (c.is_below.ensures c.if-not-is_below.false)
