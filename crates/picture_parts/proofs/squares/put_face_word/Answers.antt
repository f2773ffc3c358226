use Rattle.picture_parts.proofs.squares.put_face_word.Goals as goal

pub returns-in-Faulty : goal.returns-in-Faulty
returns-in-Faulty g c = rw c.in-Faulty.is c.text.ensures

pub returns-in-Nothing : goal.returns-in-Nothing
returns-in-Nothing g c = rw c.in-Nothing.is c.text-in-Nothing.ensures
