use Rattle.promises.proofs.OnlyTexts.{only_texts}
use Rattle.promises.proofs.only_texts.only_texts_are_read.Goals as goal

pub returns : goal.returns
returns c = only_texts c.texts_are_read.ensures.scripts c.read_scripts_have_texts.ensures
