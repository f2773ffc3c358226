use Rattle.std.proofs.Common.{rules}
use Rattle.edge_io.proofs.Writing.{writes_all}
use Rattle.plan_reader.proofs.plan_texts.write_plan.Goals as goal

pub returns : goal.returns
returns g c =
    writes_all c.new-writer.ensures c.put_plan_text.ensures c.finish.ensures (search rules)
