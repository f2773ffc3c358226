use Rattle.std.proofs.Common.{refl, ◌∙◌}
use Rattle.std.specs.Prelude.{is_ok}
use Rattle.state_codec.specs.Shapes.{shape_nodes}
use Rattle.adversary_script.proofs.DraftEras.{pushed_formed, pushed_over, over_nodes}
use Rattle.adversary_script.proofs.drafts.Draft.add_era.Goals as goal

pub invariant_of-self : goal.invariant_of-self
invariant_of-self c =
    let eras = c.self.inside.parts.eras.items in
    let room = rw (← c.self.view_is) at c.requires.many in
    let above = rw (← c.self.view_is) at c.requires.above in
    let nodes = rw (← c.self.view_is) at c.requires.nodes in
    let ids = rw nodes at c.facts.ensures.below in (
      pushed_formed _ c.self.invariant.0 eras refl (is_ok c.push.result) _ c.push.new.self.items
          c.push.ensures.items c.new.ensures.items room above ids,
      record {
        first = c.self.invariant.1.first;
        further =
            pushed_over (shape_nodes c.self.inside.shape.now) (is_ok c.push.result) _ eras
            c.push.new.self.items c.push.ensures.items
            (nodes ∙ over_nodes (shape_nodes c.self.inside.shape.now) c.self.inside.faulty
            c.self.invariant.1.first) c.self.invariant.1.further;
      },
    )
