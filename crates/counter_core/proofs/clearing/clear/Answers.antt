use Rattle.std.proofs.Common.{◌≡◌, ◌++◌, List, length, set, drop, replicate, ap, ap₂, ◌∙◌, arith}
use Rattle.sync_types.specs.declared.states.Reg.{Reg}
use Rattle.sync_types.specs.States.{State, zero_register}
use Rattle.counter_core.proofs.ClearedRegisters.{length_cleared, one_cleared}
use Rattle.counter_core.proofs.clearing.clear.Goals as goal

pub set_reg-requires : goal.set_reg-requires
set_reg-requires c =
    let lt = c.loop-i-test.true in
    let room = c.requires in
    omega (
      arith,
      ap length c.loop-i.invariant.registers,
      length_cleared c.args.state.now.registers c.loop-i.i (omega arith),
    )

pub loop-i-preserved : goal.loop-i-preserved
loop-i-preserved c =
    let lt = c.loop-i-test.true in
    let room = c.requires in
    record {
      x = ap (λ (s : State). s.x) c.set_reg.ensures ∙ c.loop-i.invariant.x;
      registers = ap (λ (s : State). s.registers) c.set_reg.ensures
          ∙ (ap (λ xs. set xs c.loop-i.i zero_register) c.loop-i.invariant.registers
          ∙ one_cleared c.args.state.now.registers c.loop-i.i (omega arith));
    }

pub returns : goal.returns
returns c =
    let end : c.loop-i.i ≡ c.args.depth = omega (arith, c.loop-i-test.false, c.loop-i.auto.i-end) in
    ap₂ (λ x (registers : List Reg). record { x = x; registers = registers }) c.loop-i.invariant.x
    (c.loop-i.invariant.registers
    ∙ ap (λ i. replicate i zero_register ++ drop i c.args.state.now.registers) end)
