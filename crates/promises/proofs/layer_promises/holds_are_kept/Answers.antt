use Rattle.promises.proofs.LayerPromises.{holds_kept}
use Rattle.promises.proofs.layer_promises.holds_are_kept.Goals as goal

pub returns : goal.returns
returns c = holds_kept c.plain_scripts_are_played.ensures c.texts_are_written.ensures
    c.hold_words_are_exact.ensures c.at_most_one_in_a_line.ensures
