use Rattle.read_texts.proofs.AnsweredTexts.{text_is_answered}
use Rattle.read_texts.proofs.laws.plan_texts_are_answered.Goals as goal

pub returns : goal.returns
returns c = text_is_answered
