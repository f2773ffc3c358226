use Rattle.std.proofs.Common.{sym, ◌∙◌}
use Rattle.run_pictures.proofs.Chains.{some_in}
use Rattle.run_pictures.proofs.choice_pictures.ChoiceFigure.is_laid.Goals as goal

pub returns : goal.returns
returns c = λ plotted. record {
  some = rw c.deref-points.ensures.value
      at (some_in _ (sym c.is_empty.ensures ∙ c.if-is_empty.false));
  plotted = rw c.deref-points.ensures.value at (c.are_plotted.ensures plotted);
}
