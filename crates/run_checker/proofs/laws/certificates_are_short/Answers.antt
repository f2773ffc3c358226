use Rattle.run_checker.proofs.ShortTexts as laws
use Rattle.run_checker.proofs.laws.certificates_are_short.Goals as goal

pub returns : goal.returns
returns c = laws.certificates_are_short
