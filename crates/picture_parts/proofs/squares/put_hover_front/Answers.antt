use Rattle.picture_parts.proofs.squares.put_hover_front.Goals as goal

pub returns : goal.returns
returns g c = rw c.configuration.ensures at c.pieces.ensures
