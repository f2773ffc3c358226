use Rattle.edge_io.proofs.Writing.{writes_then}
use Rattle.run_pictures.proofs.pages.put_page_behind.Goals as goal

pub returns : goal.returns
returns g c =
    writes_then c.put_page_middle.ensures
    (writes_then c.text.ensures
    (writes_then c.put_page_script.ensures
    (writes_then c.put_page_choose.ensures c.put_page_keys.ensures)))
