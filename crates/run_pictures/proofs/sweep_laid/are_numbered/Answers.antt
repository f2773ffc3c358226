use Rattle.std.proofs.Common.{◌≡◌, ◌*◌}
use Rattle.std.proofs.lemmas.List.Elements.{All-more}
use Rattle.run_pictures.proofs.sweep_laid.are_numbered.Goals as goal

pub loop-k-preserved : goal.loop-k-preserved
loop-k-preserved c =
    All-more (λ tick. tick.number ≡ tick.column * c.args.span) c.args.ticks.now c.loop-k.k _
    c.loop-k-test.true c.loop-k.invariant (c.is_numbered.ensures c.if-not-is_numbered.false)
