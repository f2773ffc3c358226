use Rattle.std.proofs.Common.{arith, ℕ, ◌≡◌, ◌^◌, ap, subst, ◌∙◌, take}
use Rattle.construction.specs.Widths.{width}
use Rattle.state_codec.specs.Shapes.{Fields, IsFields, bytes_in}
use Rattle.state_codec.proofs.PackedFields.{number_found}
use Rattle.state_codec.proofs.Ranged.{read_is_in_range}
use Rattle.state_codec.proofs.Windows.{front}
use Rattle.state_codec.proofs.fields.Fields.number_of.Goals as goal

-- a number of no bits is 0
pub returns-then-self-eq0 : goal.returns-then-self-eq0
returns-then-self-eq0 c =
    let fields : Fields = c.args.self.now in
    let range = read_is_in_range fields
    (take (bytes_in fields) c.args.bytes.now)
    (subst IsFields c.self.view_is c.self.invariant.fields) in
    omega (
      arith,
      range.x,
      c.self.invariant.holds,
      ap (λ (f : Fields). f.base) c.self.view_is,
      ap (λ (k : ℕ). 2 ^ k) c.if-self-eq0.true,
    )

pub returns : goal.returns
returns c =
    let base : c.self.inside.base ≡ c.args.self.now.base =
    ap (λ (f : Fields). f.base) c.self.view_is in
    number_found c.args.self.now c.args.bytes.now (omega (arith, c.requires)) c.self.inside.base
    c.self.inside.front _ c.below.result c.unwrap_or.result base
    (c.self.invariant.first ∙ ap width base)
    (front c.args.bytes.now c.self.inside.front c.read_u64.result
    (λ j. let fits = c.type_inv.bytes j in omega (arith, fits))
    (omega (arith, c.self.invariant.short)) (omega (arith, c.requires))
    (omega (arith, c.read_u64.type_inv)) c.read_u64.ensures)
    c.below.ensures c.unwrap_or.ensures
