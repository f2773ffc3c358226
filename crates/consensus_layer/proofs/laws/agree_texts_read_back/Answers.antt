use Rattle.consensus_layer.proofs.AgreeTexts.{agree_text_is_read}
use Rattle.consensus_layer.proofs.laws.agree_texts_read_back.Goals as goal

pub returns : goal.returns
returns c = agree_text_is_read
