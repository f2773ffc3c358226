use Rattle.halving_texts.proofs.HeaderTexts.{text_is_read_back}
use Rattle.halving_texts.proofs.header_laws.header_texts_read_back.Goals as goal

pub returns : goal.returns
returns c = text_is_read_back
