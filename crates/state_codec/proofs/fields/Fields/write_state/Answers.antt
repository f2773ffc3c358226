use Rattle.std.proofs.Common.{rules, arith, ℕ, ◌≡◌, ◌<◌, ◌+◌, ◌-◌, ◌*◌, ap, ◌∙◌, ◌++◌, List, Bool}
use Rattle.std.proofs.Common.{length, get_or, sym}
use Rattle.std.specs.Int.{div_ceil}
use Rattle.state_codec.specs.Bits.{bits}
use Rattle.construction.specs.Widths.{width}
use Rattle.state_codec.specs.Shapes.{Fields, registers_bits, bits_in, bytes_in}
use Rattle.state_codec.specs.Writing.{written}
use Rattle.state_codec.proofs.Whole.{state_with, all_written, rounded_most}
use Rattle.state_codec.proofs.fields.Fields.write_state.Goals as goal

pub overflow_mul-padding : goal.overflow_mul-padding
overflow_mul-padding c =
    let most : 8 * div_ceil c.self.inside.size 8 < c.self.inside.size + 8 =
    rounded_most c.self.inside.size in
    search rules

pub returns : goal.returns
returns c =
    let fields : Fields = c.args.self.now in
    let bytes : (i : ℕ) → get_or c.put-none.new.out i 0 < 256 = λ i. (c.type_inv.out i).fits in
    let sum : c.self.inside.size ≡ width fields.base + registers_bits fields.moduli =
    c.self.invariant.sum ∙ ap (λ (f : Fields). bits_in f) c.self.view_is in
    let first : c.self.inside.front ≡ width fields.base =
    c.self.invariant.first ∙ ap (λ (f : Fields). width f.base) c.self.view_is in
    let room : bytes_in fields ≡ div_ceil c.self.inside.size 8 =
    ap (λ (y : ℕ). div_ceil y 8) (sym sum) in
    let long : length c.put-none.new.out ≡ div_ceil c.self.inside.size 8 =
    c.put-none.ensures.length ∙ (c.append-whole.ensures.length
    ∙ (c.put_registers-end.ensures.length ∙ (c.requires.length ∙ room))) in
    let pad : c.div_ceil.result * 8 - c.self.inside.size
    ≡ div_ceil c.self.inside.size 8 * 8 - c.self.inside.size =
    ap (λ (y : ℕ). y * 8 - c.self.inside.size) c.div_ceil.ensures in
    let place : 8 * c.put-none.result.at + c.put-none.result.count
    ≡ c.self.inside.front + registers_bits
    fields.moduli + (c.div_ceil.result * 8 - c.self.inside.size) =
    omega (
      arith,
      c.put-none.ensures.place,
      c.append-whole.ensures.place,
      c.put_registers-end.ensures.place,
    ) in
    all_written fields.base c.x.result fields.moduli c.args.state.now.registers
    c.args.out.now c.put-none.new.out c.put-none.result.at c.put-none.result.count
    c.put-none.result.held
    c.self.inside.size (c.div_ceil.result * 8 - c.self.inside.size) c.self.inside.front bytes sum
    first long pad c.put-none.result.few place
    (c.put-none.ensures.text ∙ (c.append-whole.ensures.text ∙ ap (λ (y : List Bool). y ++ bits
    (c.div_ceil.result * 8 - c.self.inside.size) 0) c.put_registers-end.ensures.text))
    ∙ ap (λ (y : ℕ). written fields (state_with y c.args.state.now.registers)) c.x.ensures
