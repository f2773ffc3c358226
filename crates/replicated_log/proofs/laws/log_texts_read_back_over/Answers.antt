use Rattle.replicated_log.proofs.LogTexts.{log_text_is_read_over}
use Rattle.replicated_log.proofs.laws.log_texts_read_back_over.Goals as goal

pub returns : goal.returns
returns c = log_text_is_read_over
