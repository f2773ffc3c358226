use Rattle.promises.proofs.LayerPromises.{fires_kept}
use Rattle.promises.proofs.layer_promises.fires_are_kept.Goals as goal

pub returns : goal.returns
returns c = fires_kept c.scripts_are_played.ensures c.texts_are_written.ensures
    c.slots_are_exact.ensures c.lines_fire_together.ensures
