use Rattle.promises.proofs.Skips as law
use Rattle.promises.proofs.plan_promises.skipped_lines_are_unseen.Goals as goal

pub returns : goal.returns
returns c = law.skipped_lines_are_unseen
