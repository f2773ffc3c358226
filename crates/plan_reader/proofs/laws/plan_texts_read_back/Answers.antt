use Rattle.plan_reader.proofs.ReadBack.{text_is_read, text_is_whole}
use Rattle.plan_reader.proofs.laws.plan_texts_read_back.Goals as goal

pub returns : goal.returns
returns c = record { part = text_is_read; whole = text_is_whole }
