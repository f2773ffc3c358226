use Rattle.std.proofs.Common.{arith, ◌<◌, ◌++◌, ℕ, List, Bool, ap, sym, subst, ◌∙◌, drop, length}
use Rattle.std.specs.Prelude.{slice_index}
use Rattle.std.proofs.lemmas.List.{drop_all}
use Rattle.sync_types.specs.declared.states.Reg.{Reg}
use Rattle.state_codec.specs.Shapes.{Fields, register_bits, registers_bits}
use Rattle.state_codec.specs.Ranges.{IsField}
use Rattle.state_codec.specs.Writing.{bits_of_register}
use Rattle.state_codec.specs.Waiting.{said_so_far}
use Rattle.state_codec.proofs.RegisterSteps.{registers_bits_at, registers_bits_of_none, put_step}
use Rattle.state_codec.proofs.RegisterSteps.{put_end}
use Rattle.state_codec.proofs.fields.Fields.put_registers.Goals as goal

pub bits-number-requires : goal.bits-number-requires
bits-number-requires c =
    let moduli = ap (λ (f : Fields). length f.moduli) c.self.view_is in
    let lt : c.loop-i.i < length c.args.self.now.moduli =
    omega (arith, c.loop-i-test.true, moduli) in
    subst (λ m. IsField m c.reg.result) (sym c.register.ensures)
    (subst (λ (r : Reg). IsField (slice_index c.args.self.now.moduli c.loop-i.i) r)
    (sym c.reg.ensures) (c.requires.range.values c.loop-i.i lt))

pub append-waiting-requires : goal.append-waiting-requires
append-waiting-requires c =
    let moduli = ap (λ (f : Fields). length f.moduli) c.self.view_is in
    let lt : c.loop-i.i < length c.args.self.now.moduli =
    omega (arith, c.loop-i-test.true, moduli) in
    let long = c.bits-number.ensures.size ∙ (c.register.result.sized
    ∙ ap register_bits c.register.ensures) in
    omega (
      arith,
      c.loop-i.invariant.place,
      c.loop-i.invariant.size_kept,
      c.requires.space,
      long,
      registers_bits_at c.args.self.now.moduli c.loop-i.i lt,
    )

pub loop-i-preserved : goal.loop-i-preserved
loop-i-preserved c =
    let ms : List ℕ = c.args.self.now.moduli in
    let v : ℕ = c.loop-i.i in
    let moduli = ap (λ (f : Fields). length f.moduli) c.self.view_is in
    let lt : v < length ms = omega (arith, c.loop-i-test.true, moduli) in
    let in_state : v < length c.args.state.now.registers =
    omega (arith, lt, c.requires.range.depth) in
    let long = c.bits-number.ensures.size ∙ (c.register.result.sized
    ∙ ap register_bits c.register.ensures) in
    record {
      size_kept = c.append-waiting.ensures.length ∙ c.loop-i.invariant.size_kept;
      text = put_step ms c.args.state.now.registers v c.reg.result _ _ _ lt in_state c.reg.ensures
          (c.append-waiting.ensures.text ∙ ap (λ (y : List Bool). said_so_far c.loop-i.out
          c.loop-i.waiting ++ y)
          (c.bits-number.ensures.text ∙ ap (λ m. bits_of_register m c.reg.result)
          c.register.ensures)) c.loop-i.invariant.text;
      place = omega (
        arith,
        c.append-waiting.ensures.place,
        c.loop-i.invariant.place,
        long,
        registers_bits_at ms v lt,
      );
    }

pub returns-clause-text : goal.returns-clause-text
returns-clause-text c =
    let moduli = ap (λ (f : Fields). length f.moduli) c.self.view_is in
    put_end c.args.self.now.moduli (drop c.loop-i.i c.args.state.now.registers) c.loop-i.i _ _
    (omega (arith, c.loop-i-test.false, moduli)) c.loop-i.invariant.text

pub returns-clause-place : goal.returns-clause-place
returns-clause-place c =
    let moduli = ap (λ (f : Fields). length f.moduli) c.self.view_is in
    omega (
      arith,
      c.loop-i.invariant.place,
      ap registers_bits (drop_all c.loop-i.i c.args.self.now.moduli
          (omega (arith, c.loop-i-test.false, moduli))),
      registers_bits_of_none,
    )
