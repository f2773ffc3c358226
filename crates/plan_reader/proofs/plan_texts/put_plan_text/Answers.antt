use Rattle.edge_io.proofs.Writing.{writes_then}
use Rattle.plan_reader.proofs.plan_texts.put_plan_text.Goals as goal

pub returns : goal.returns
returns g c =
    writes_then c.put_version.ensures
    (writes_then c.put_base.ensures (writes_then c.put_levels.ensures c.text.ensures))
