use Rattle.promises.proofs.WrittenLines as law
use Rattle.promises.proofs.run_laws.texts_are_written.Goals as goal

pub returns : goal.returns
returns c = law.texts_are_written
