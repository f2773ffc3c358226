use Rattle.run_checker.proofs.TrueTexts as laws
use Rattle.run_checker.proofs.laws.short_texts_are_checked.Goals as goal

pub returns : goal.returns
returns c = laws.short_texts_are_checked c.certificates_are_checked.ensures
