use Rattle.promises.proofs.LayerPromises.{entries_kept}
use Rattle.promises.proofs.layer_promises.entries_are_kept.Goals as goal

pub returns : goal.returns
returns c = entries_kept c.scripts_are_played.ensures c.texts_are_written.ensures
    c.slots_are_exact.ensures c.lines_put_one.ensures
