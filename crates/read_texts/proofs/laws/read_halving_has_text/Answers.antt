use Rattle.read_texts.proofs.TakenHalving.{read_is_text, read_is_whole}
use Rattle.read_texts.proofs.laws.read_halving_has_text.Goals as goal

pub returns : goal.returns
returns c = record { part = read_is_text; whole = read_is_whole }
