use Rattle.run_pictures.proofs.printing.put_word.Goals as goal

pub returns-in-None : goal.returns-in-None
returns-in-None g c = rw c.in-None.is c.text.ensures
