use Rattle.run_checker.proofs.Answers as answers
use Rattle.run_checker.proofs.certificate_laws.certificates_are_checked.Goals as goal

pub returns : goal.returns
returns c = answers.certificates_checked
