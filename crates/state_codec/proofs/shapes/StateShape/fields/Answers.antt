use Rattle.std.proofs.Common.{◌≡◌, ◌<◌, ◌∙◌, length, ap, arith, subst}
use Rattle.std.specs.Prelude.{slice_index_or}
use Rattle.std.proofs.lemmas.List.{length-map}
use Rattle.state_codec.specs.Shapes.{no_fields, Shape, fields_at, shape_nodes}
use Rattle.state_codec.proofs.Lows.{kind_at, any_default}
use Rattle.state_codec.proofs.shapes.StateShape.fields.Goals as goal

pub returns : goal.returns
returns c =
    let kinds = c.self.inside.kinds.items in
    let which = c.self.inside.which.items in
    let lt : c.args.v < length which = omega (
      arith,
      c.requires,
      ap shape_nodes c.self.view_is,
      length-map which (λ kind. slice_index_or kinds kind no_fields),
    ) in
    subst (λ (s : Shape). c.index-2.result.now ≡ fields_at s c.args.v) c.self.view_is
    (kind_at _ kinds which c.args.v c.index.result.now c.index-2.result.now
    c.self.invariant lt (c.index.ensures
    ∙ any_default which c.args.v c.index.result.now 0 lt) c.index-2.ensures)
