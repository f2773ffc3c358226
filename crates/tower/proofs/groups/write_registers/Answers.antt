use Rattle.std.proofs.Common.{ℕ, ◌<◌, List, length, map, drop, ap, ◌∙◌, arith}
use Rattle.std.specs.List.{range_with_len}
use Rattle.std.proofs.lemmas.List.{length-append, length-drop}
use Rattle.std.proofs.lemmas.List.FromFn.{length-map-range_with_len}
use Rattle.sync_types.specs.declared.states.Reg.{Reg}
use Rattle.sync_types.specs.States.{State}
use Rattle.tower.specs.Placings.{Placing}
use Rattle.tower.specs.Placings.{row_register}
use Rattle.tower.proofs.Writing.{wrote_more}
use Rattle.tower.proofs.groups.write_registers.Goals as goal

pub set_reg-requires : goal.set_reg-requires
set_reg-requires g c =
    let h : ℕ = c.loop-height.height in
    let f : ℕ → Reg = row_register c.args.board.now c.args.row.now c.args.node c.args.lies.now
    c.args.groups.now in
    let old : List Reg = c.args.out.now.registers in
    let long = ap length c.loop-height.invariant.registers
    ∙ length-append (map f (range_with_len 0 h)) (drop h old) in
    omega (
      arith,
      long,
      length-map-range_with_len f 0 h,
      length-drop h old,
      c.requires.out,
      c.loop-height-test.true,
      c.len-height-end.ensures,
      c.args.row.now.places.ok.0,
    )

pub loop-height-preserved : goal.loop-height-preserved
loop-height-preserved g c =
    let i = c.loop-height.invariant in
    let h : ℕ = c.loop-height.height in
    let f : List Placing → ℕ
    → Reg = row_register c.args.board.now c.args.row.now c.args.node c.args.lies.now in
    let old : List Reg = c.args.out.now.registers in
    let e = c.register_at-register.ensures in
    let less : h < length old =
    omega (
      arith,
      c.requires.out,
      c.loop-height-test.true,
      c.len-height-end.ensures,
      c.args.row.now.places.ok.0,
    ) in
    record {
      number = ap (λ (s : State). s.x) c.set_reg.ensures ∙ i.number;
      registers = ap (λ (s : State). s.registers) c.set_reg.ensures
          ∙ wrote_more (f c.args.groups.now) h old c.loop-height.out.registers
          c.register_at-register.result less i.registers
          (e.register ∙ ap (λ gs. f gs h) i.same);
      same = e.same ∙ i.same;
      steps = omega (arith, e.steps, i.steps);
    }
