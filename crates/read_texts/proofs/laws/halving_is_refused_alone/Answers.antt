use Rattle.read_texts.proofs.TakenHalving.{refused_alone}
use Rattle.read_texts.proofs.laws.halving_is_refused_alone.Goals as goal

pub returns : goal.returns
returns c = refused_alone
