use Rattle.halving_texts.proofs.ReadBack.{text_is_read, text_is_whole}
use Rattle.halving_texts.proofs.laws.halving_texts_read_back.Goals as goal

pub returns-clause-part : goal.returns-clause-part
returns-clause-part c = text_is_read

pub returns-clause-whole : goal.returns-clause-whole
returns-clause-whole c = text_is_whole
