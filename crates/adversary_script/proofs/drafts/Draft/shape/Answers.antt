use Rattle.std.proofs.Common.{◌∙◌, ap, sym}
use Rattle.state_codec.specs.Shapes.{shape_nodes}
use Rattle.adversary_script.specs.Scripts.{Script}
use Rattle.adversary_script.proofs.DraftEras.{over_nodes}
use Rattle.adversary_script.proofs.drafts.Draft.shape.Goals as goal

pub returns-clause-nodes : goal.returns-clause-nodes
returns-clause-nodes c =
    sym (over_nodes (shape_nodes c.self.inside.shape.now) c.self.inside.faulty
    c.self.invariant.1.first)
    ∙ ap (λ (s : Script). s.nodes) c.self.view_is
