use Rattle.std.proofs.Common.{◌≡◌, Some, refl, sym, ap, ◌∙◌, subst}
use Rattle.state_codec.specs.Shapes.{shape_nodes}
use Rattle.adversary_script.specs.Scripts.{IsScript, AreWithin}
use Rattle.adversary_script.specs.Seen.{script_seen, faulty_or_none, IsOver}
use Rattle.adversary_script.specs.Links.{IsLinked}
use Rattle.adversary_script.proofs.DraftEras.{nothing_kept, over_nodes}
use Rattle.adversary_script.proofs.drafts.Draft.finish.Goals as goal

pub invariant_of-self : goal.invariant_of-self
invariant_of-self c =
    let kept = nothing_kept c.self.inside.shape.now (shape_nodes c.self.inside.shape.now)
    c.take.new.self c.none.result c.take.ensures.after (c.none.ensures.says _ _)
    c.none.ensures.eras in
    rw c.replace-parts.ensures.after (kept.0, kept.1)

pub invariant_of-self-2 : goal.invariant_of-self-2
invariant_of-self-2 c =
    let kept = nothing_kept c.self.inside.shape.now (shape_nodes c.self.inside.shape.now)
    c.take.new.self c.none.result c.take.ensures.after (c.none.ensures.says _ _)
    c.none.ensures.eras in
    rw c.replace-parts.ensures.after (kept.0, kept.1)

pub invariant_of-result : goal.invariant_of-result
invariant_of-result c =
    let shape : c.in_ok-shape.shape ≡ c.self.inside.shape.now =
    c.in_ok-shape.ensures in
    let faulty : c.in_ok-faulty.faulty ≡ faulty_or_none (shape_nodes c.self.inside.shape.now)
    c.self.inside.faulty = c.in_ok-faulty.ensures
    ∙ rw (c.nodes-nodes.ensures.value, c.take.ensures.value) refl in
    let parts : c.replace-parts.result ≡ c.self.inside.parts = c.replace-parts.ensures.value in
    let nodes = ap (λ f. f.nodes) faulty ∙ over_nodes (shape_nodes c.self.inside.shape.now)
    c.self.inside.faulty c.self.invariant.1.first in
    let within = subst AreWithin (sym c.self.view_is) c.requires in
    let said : IsScript
    (script_seen c.self.inside.shape.now
    (faulty_or_none (shape_nodes c.self.inside.shape.now) c.self.inside.faulty)
    c.self.inside.parts) = record { formed = c.self.invariant.0; within = within } in
    let over : IsOver c.in_ok-faulty.faulty.nodes (Some c.in_ok-faulty.faulty)
    c.replace-parts.result =
    record { first = refl; further = rw (parts, nodes) c.self.invariant.1.further } in
    let linked : IsLinked c.in_ok-faulty.faulty.nodes c.replace-parts.result.lies.items
    c.in_ok-links.links.firsts.items c.in_ok-links.links.nexts.items =
    rw (parts, nodes, ← c.nodes-nodes.ensures.value)
    (rw c.deref.ensures.value at c.in_ok-links.ensures) in (
      rw (shape, faulty, parts) said,
      over,
      ap shape_nodes shape ∙ sym nodes,
      linked,
    )
