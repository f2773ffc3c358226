use Rattle.firing.proofs.RequestTexts.{request_text_is_read_over}
use Rattle.firing.proofs.laws.request_texts_read_back_over.Goals as goal

pub returns : goal.returns
returns c = request_text_is_read_over
