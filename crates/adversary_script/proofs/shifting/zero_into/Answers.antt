use Rattle.std.proofs.Common.{arith, ◌<◌, ap, ◌∙◌, length}
use Rattle.std.proofs.lemmas.List.{length-set}
use Rattle.sync_types.specs.States.{State}
use Rattle.state_codec.proofs.RegisterSteps.{state_is, zero_step, zero_end}
use Rattle.adversary_script.proofs.shifting.zero_into.Goals as goal

pub set_reg-requires : goal.set_reg-requires
set_reg-requires c = omega (arith, ap (λ (s : State). length s.registers) c.set_x.ensures)

pub loop-i-preserved : goal.loop-i-preserved
loop-i-preserved c =
    let in_state : c.loop-i.i < length c.loop-i.out.registers =
    omega (arith, ap (λ (s : State). length s.registers) c.set_x.ensures) in
    record {
      number = ap (λ (s : State). s.x) c.set_reg.ensures ∙ c.loop-i.invariant.number;
      depth =
          ap (λ (s : State). length s.registers) c.set_reg.ensures
          ∙ length-set c.loop-i.out.registers c.loop-i.i _ ∙ c.loop-i.invariant.depth;
      zeros =
          zero_step c.loop-i.out.registers c.set_reg.new.self.registers c.loop-i.i in_state
          (ap (λ (s : State). s.registers) c.set_reg.ensures) c.loop-i.invariant.zeros;
    }

pub returns : goal.returns
returns c =
    let long = ap (λ (s : State). length s.registers) c.set_x.ensures in
    state_is c.loop-i.out _ _ c.loop-i.invariant.number
    (zero_end c.loop-i.out.registers c.loop-i.i (length c.args.out.now.registers) (omega arith)
    (omega arith) (omega arith) c.loop-i.invariant.zeros)
