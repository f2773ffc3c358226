use Rattle.std.proofs.Common.{◌∙◌, sym}
use Rattle.adversary_script.proofs.LiesInRange.{depth_of_node}
use Rattle.adversary_script.proofs.scripts.Script.lie_into.Goals as goal

pub copy_from-requires : goal.copy_from-requires
copy_from-requires c =
    depth_of_node c.args.self.now.shape c.args.u c.in-State.state
    (rw c.in-State.is at c.in-Some.ensures.what) ∙ sym c.requires.depth
