use Rattle.plan_finder.proofs.WantTexts.{want_text_is_read}
use Rattle.plan_finder.proofs.laws.want_texts_read_back.Goals as goal

pub returns : goal.returns
returns c = want_text_is_read
