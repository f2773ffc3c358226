use Rattle.read_texts.proofs.TakenScripts.{read_is_text, read_is_whole}
use Rattle.read_texts.proofs.laws.read_scripts_are_said.Goals as goal

pub returns : goal.returns
returns c = record { part = read_is_text; whole = read_is_whole }
