use Rattle.consensus_layer.proofs.laws.agree_texts_read_back_over.Goals as goal
use Rattle.consensus_layer.proofs.AgreeTexts as law

pub returns : goal.returns
returns c = law.agree_text_is_read_over
