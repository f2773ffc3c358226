use Rattle.read_texts.proofs.FoundTexts.{found_is_read, none_is_said}
use Rattle.read_texts.proofs.laws.found_texts_are_read.Goals as goal

pub returns : goal.returns
returns c = record { plan = found_is_read; none = none_is_said }
