use Rattle.std.proofs.Common.{rules}
use Rattle.state_codec.specs.Ranges.{InRange}
use Rattle.state_codec.specs.Shapes.{fields_at}
use Rattle.adversary_script.proofs.LiesInRange.{depth_of_node}
use Rattle.adversary_script.proofs.scripts.Script.start_in.Goals as goal

pub returns-then-start-from-clause-depth : goal.returns-then-start-from-clause-depth
returns-then-start-from-clause-depth c =
    let range : InRange (fields_at c.args.self.now.shape c.start-item.result.node)
    c.start-item.result.state = search rules in
    depth_of_node c.args.self.now.shape c.start-item.result.node c.start-item.result.state range
