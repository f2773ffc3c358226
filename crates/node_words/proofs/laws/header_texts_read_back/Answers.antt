use Rattle.node_words.proofs.HeadersRead.{text_is_read_back}
use Rattle.node_words.proofs.laws.header_texts_read_back.Goals as goal

pub returns : goal.returns
returns c = text_is_read_back
