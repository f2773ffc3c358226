use Rattle.halving_texts.proofs.Rewritten.{texts_are_rewritten}
use Rattle.halving_texts.proofs.laws.accepted_texts_are_rewritten.Goals as goal

pub returns : goal.returns
returns c = texts_are_rewritten
