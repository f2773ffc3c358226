use Rattle.read_texts.proofs.TakenPlans.{read_is_text, read_is_whole}
use Rattle.read_texts.proofs.laws.read_plans_have_texts.Goals as goal

pub returns : goal.returns
returns c = record { part = read_is_text; whole = read_is_whole }
