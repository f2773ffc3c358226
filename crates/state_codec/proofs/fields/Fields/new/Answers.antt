use Rattle.std.proofs.Common.{rules, arith, ℕ, ◌≡◌, ◌<◌, ◌≤◌, ◌∙◌, ◌+◌, ◌-◌, ◌^◌, ap, set, take}
use Rattle.std.proofs.Common.{length, get_or, refl, List}
use Rattle.std.proofs.lemmas.List.{length-set, take_all}
use Rattle.construction.specs.Widths.{width}
use Rattle.state_codec.specs.Shapes.{register_bits, registers_bits}
use Rattle.state_codec.proofs.Lows.{any_default}
use Rattle.state_codec.proofs.PackedFields.{bits_through}
use Rattle.state_codec.proofs.RegisterSteps.{registers_bits_of_none, bits_more, set_more}
use Rattle.state_codec.proofs.fields.Fields.new.Goals as goal

pub loop-i-init : goal.loop-i-init
loop-i-init c =
    record {
      size = omega (arith, registers_bits_of_none);
      room = search rules;
      rooms = search rules;
      offsets = λ j lt. absurd (omega (arith, lt));
      sizes = λ j lt. absurd (omega (arith, lt));
    }

pub overflow_add-size : goal.overflow_add-size
overflow_add-size c =
    let i = c.loop-i.invariant in
    let v : ℕ = c.loop-i.i in
    let ms : List ℕ = c.args.moduli.items in
    let less : v < length ms = omega (arith, c.loop-i-test.true, c.len-i-end.ensures) in
    let same : c.args.base - 1 + 1 ≡ c.args.base = omega (arith, c.requires.limits.least) in
    let first : c.bit_length-front.result ≡ width c.args.base =
    c.bit_length-front.ensures.value ∙ ap width same in
    omega (
      arith,
      i.size,
      first,
      bits_through ms v less,
      c.requires.few,
      c.size_of_register-own.ensures.most,
    )

pub loop-i-preserved : goal.loop-i-preserved
loop-i-preserved c =
    let i = c.loop-i.invariant in
    let v : ℕ = c.loop-i.i in
    let ms : List ℕ = c.args.moduli.items in
    let own : ℕ = c.size_of_register-own.result in
    let less : v < length ms = omega (arith, c.loop-i-test.true, c.len-i-end.ensures) in
    let place : v < length c.loop-i.offsets.items = omega (arith, less, i.room) in
    let places : v < length c.loop-i.sizes.items = omega (arith, less, i.rooms) in
    let bits : own ≡ register_bits (get_or ms v 0) = c.size_of_register-own.ensures.value
    ∙ ap register_bits (c.index.ensures ∙ any_default ms v c.index.result.now 0 less) in
    let more = bits_more ms v (registers_bits (take v ms)) own (get_or ms v 0) less refl refl
    bits in
    record {
      size = omega (arith, more, i.size);
      room = length-set c.loop-i.offsets.items v c.loop-i.size ∙ i.room;
      rooms = length-set c.loop-i.sizes.items v own ∙ i.rooms;
      offsets = set_more (λ j. c.bit_length-front.result + registers_bits (take j ms))
          c.loop-i.offsets.items (set c.loop-i.offsets.items v c.loop-i.size) v c.loop-i.size place
          i.size refl i.offsets;
      sizes = set_more (λ j. register_bits (get_or ms j 0)) c.loop-i.sizes.items
          (set c.loop-i.sizes.items v own) v own places bits refl i.sizes;
    }

pub invariant_of-result : goal.invariant_of-result
invariant_of-result c =
    let i = c.loop-i.invariant in
    let ms : List ℕ = c.args.moduli.items in
    let end : length ms ≤ c.loop-i.i = omega (arith, c.loop-i-test.false, c.len-i-end.ensures) in
    let limit : c.args.base - 1 ≤ 2 ^ 40 = omega (arith, c.requires.limits.most) in
    let same : c.args.base - 1 + 1 ≡ c.args.base = omega (arith, c.requires.limits.least) in
    let first : c.bit_length-front.result ≡ width c.args.base =
    c.bit_length-front.ensures.value ∙ ap width same in
    let sum : c.loop-i.size ≡ width c.args.base + registers_bits ms =
    i.size ∙ (ap (λ k. k + registers_bits (take c.loop-i.i ms)) first
    ∙ ap (λ xs. width c.args.base + registers_bits xs) (take_all c.loop-i.i ms end)) in
    record {
      fields = c.requires.limits;
      room = i.room;
      begins = λ j lt. i.offsets j (omega (arith, lt, end))
          ∙ ap (λ k. k + registers_bits (take j ms)) first;
      rooms = i.rooms;
      each = λ j lt. i.sizes j (omega (arith, lt, end));
      first = first;
      holds = c.bit_length-front.ensures.fits;
      short = c.bit_length-front.ensures.most limit;
      few = omega (arith, sum, c.requires.few);
      sum = sum;
    }
