use Rattle.attack.proofs.WrittenTexts.{written_is_read}
use Rattle.attack.proofs.laws.written_is_read.Goals as goal

pub returns : goal.returns
returns c =
    written_is_read c.plan_texts_read_back.ensures.part c.halving_texts_read_back.ensures.part
