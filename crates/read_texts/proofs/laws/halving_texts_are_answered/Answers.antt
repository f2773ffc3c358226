use Rattle.read_texts.proofs.AnsweredHalving.{text_is_answered}
use Rattle.read_texts.proofs.laws.halving_texts_are_answered.Goals as goal

pub returns : goal.returns
returns c = text_is_answered
