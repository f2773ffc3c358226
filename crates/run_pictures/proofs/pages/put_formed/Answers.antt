use Rattle.edge_io.proofs.Writing.{writes_then}
use Rattle.run_pictures.proofs.pages.put_formed.Goals as goal

pub returns-in-Picture : goal.returns-in-Picture
returns-in-Picture g c = rw c.in-Picture.is c.put_picture.ensures

pub returns-in-Page : goal.returns-in-Page
returns-in-Page g c =
    rw c.in-Page.is
    (writes_then c.put_page_front.ensures
    (writes_then c.put_picture-in-Page.ensures c.put_page_behind.ensures))
