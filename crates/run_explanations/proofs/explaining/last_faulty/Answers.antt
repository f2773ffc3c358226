use Rattle.run_explanations.proofs.Taking.{ids_are}
use Rattle.run_explanations.proofs.explaining.last_faulty.Goals as goal

pub returns : goal.returns
returns c = ids_are _ c.args.script.now _ c.era_faulty.ensures c.eras.ensures.value
