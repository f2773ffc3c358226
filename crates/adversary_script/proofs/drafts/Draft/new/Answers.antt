use Rattle.std.proofs.Common.{refl, None}
use Rattle.state_codec.specs.Shapes.{shape_nodes}
use Rattle.adversary_script.proofs.DraftEras.{nothing_kept}
use Rattle.adversary_script.proofs.drafts.Draft.new.Goals as goal

pub invariant_of-result : goal.invariant_of-result
invariant_of-result c =
    let kept = nothing_kept c.args.shape.now (shape_nodes c.args.shape.now) None c.none.result refl
    (c.none.ensures.says c.args.shape.now (shape_nodes c.args.shape.now)) c.none.ensures.eras in
    (kept.0, kept.1)

pub returns : goal.returns
returns c = c.none.ensures.says c.args.shape.now (shape_nodes c.args.shape.now)
