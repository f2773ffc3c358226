use Rattle.std.proofs.Common.{subst}
use Rattle.state_codec.specs.Shapes.{IsShape}
use Rattle.adversary_script.specs.Scripts.{Script}
use Rattle.adversary_script.proofs.LiesInRange.{zero_of_node}
use Rattle.adversary_script.proofs.scripts.Script.start_into.Goals as goal

pub returns-in-Zero-clause-range : goal.returns-in-Zero-clause-range
returns-in-Zero-clause-range c =
    let sound = subst (λ (s : Script). IsShape s.shape) c.self.view_is c.facts.ensures in
    rw (c.zero_into.ensures, c.requires.depth) (zero_of_node c.args.self.now.shape c.args.v sound)
