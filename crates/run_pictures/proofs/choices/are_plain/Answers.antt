use Rattle.std.proofs.Common.{◌≡◌, true, sym, ◌∙◌}
use Rattle.std.proofs.lemmas.List.Elements.{All-more}
use Rattle.run_pictures.specs.Choices.{is_plain}
use Rattle.run_pictures.proofs.choices.are_plain.Goals as goal

pub loop-k-preserved : goal.loop-k-preserved
loop-k-preserved c =
    All-more (λ byte. is_plain byte ≡ true) c.args.bytes.now c.loop-k.k _
    c.loop-k-test.true c.loop-k.invariant (sym c.is_plain.ensures ∙ c.if-not-is_plain.false)
