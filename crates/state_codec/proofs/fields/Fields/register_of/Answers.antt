use Rattle.std.proofs.Common.{arith, ℕ, ◌≡◌, ◌+◌, ◌<◌, ap, ap₂, sym, ◌∙◌, length, take, drop}
use Rattle.construction.specs.Widths.{width}
use Rattle.state_codec.specs.Bits.{bits_of_bytes}
use Rattle.state_codec.specs.Shapes.{Fields, register_bits, registers_bits}
use Rattle.state_codec.specs.Reading.{register_from}
use Rattle.state_codec.proofs.Lows.{any_default}
use Rattle.state_codec.proofs.PackedFields.{register_among, register_fits}
use Rattle.state_codec.proofs.fields.Fields.register_of.Goals as goal

pub read-requires : goal.read-requires
read-requires c =
    let v : ℕ = c.args.i in
    let fields : Fields = c.args.self.now in
    let long = ap (λ (f : Fields). length f.moduli) c.self.view_is in
    let lt : v < length fields.moduli = c.requires.register in
    let inside : v < length c.self.inside.moduli.items = omega (arith, lt, long) in
    let there : v < length c.self.inside.offsets.items =
    omega (arith, inside, c.self.invariant.room) in
    let offset : c.index.result.now ≡ width fields.base + registers_bits (take v fields.moduli) =
    (c.index.ensures ∙ any_default c.self.inside.offsets.items v c.index.result.now 0 there)
    ∙ c.self.invariant.begins v inside
    ∙ ap (λ (f : Fields). width f.base + registers_bits (take v f.moduli)) c.self.view_is in
    omega (
      arith,
      c.requires.within,
      offset,
      c.register.result.sized ∙ ap register_bits c.register.ensures,
      register_fits fields c.args.bytes.now (omega (arith, c.requires.within)) v lt,
    )

pub returns : goal.returns
returns c =
    let v : ℕ = c.args.i in
    let fields : Fields = c.args.self.now in
    let long = ap (λ (f : Fields). length f.moduli) c.self.view_is in
    let lt : v < length fields.moduli = c.requires.register in
    let inside : v < length c.self.inside.moduli.items = omega (arith, lt, long) in
    let there : v < length c.self.inside.offsets.items =
    omega (arith, inside, c.self.invariant.room) in
    let offset : c.index.result.now ≡ width fields.base + registers_bits (take v fields.moduli) =
    (c.index.ensures ∙ any_default c.self.inside.offsets.items v c.index.result.now 0 there)
    ∙ c.self.invariant.begins v inside
    ∙ ap (λ (f : Fields). width f.base + registers_bits (take v f.moduli)) c.self.view_is in
    c.read.ensures
    ∙ (ap₂ (λ m k. register_from m (drop k (bits_of_bytes c.args.bytes.now))) c.register.ensures
    offset
    ∙ sym (register_among fields c.args.bytes.now (omega (arith, c.requires.within)) v lt))
