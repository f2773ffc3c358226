use Rattle.std.proofs.Common.{◌≡◌, ◌<◌, ◌≤◌, ◌++◌, ◌∙◌, sym, ap, subst, arith, drop}
use Rattle.std.proofs.Common.{◌==◌, true, false, length}
use Rattle.std.proofs.lemmas.List.{append-nil, drop_all}
use Rattle.state_codec.specs.Shapes.{fields_at}
use Rattle.state_codec.proofs.Lows.{depth_at}
use Rattle.states.specs.StateTexts.{registers_text, had}
use Rattle.states.proofs.PutRegisters.{none_put, one_put, not_zero, is_zero}
use Rattle.states.proofs.shaped.NodeShape.push_registers.Goals as goal
use Rattle.states.proofs.shaped.NodeShape.push_registers.Goals.{
  then-modulus-gt0+in_ok-push_text+in_ok-push_register,
  else-modulus-gt0,
}

pub loop-i-preserved : goal.loop-i-preserved
loop-i-preserved c =
    let self = c.args.self.now in
    let moduli = (fields_at self.shape.now self.node).moduli in
    let registers = c.args.state.now.registers in
    let inside : c.loop-i.i < length moduli =
    omega (arith, depth_at self.shape.now self.node, c.loop-i-test.true, c.depth-i-end.ensures) in
    let here : c.loop-i.i < length registers =
    omega (arith, c.requires, c.loop-i-test.true, c.depth-i-end.ensures) in
    elim c.if-modulus-gt0.branch [
      | then-modulus-gt0+in_ok-push_text+in_ok-push_register w ↦
          rw (
            w.out-is,
            w.before-is,
            w.as_slice-before-then-modulus-gt0.ensures,
            w.in_ok-push_register.ensures,
            w.in_ok-push_text.ensures,
            w.reg.ensures,
          )
          (one_put moduli registers c.loop-i.i inside here c.loop-i.out.items
          c.loop-i.before.now
          (subst (λ m. (m == 0) ≡ false) c.modulus.ensures.value
          (not_zero c.modulus.result w.if-modulus-gt0.true)) ∙ c.loop-i.invariant)
      | else-modulus-gt0 w ↦
          rw (w.out-is, w.before-is)
          (ap (λ held. c.loop-i.out.items ++ registers_text c.loop-i.before.now held)
          (none_put moduli registers c.loop-i.i inside here
          (subst (λ m. (m == 0) ≡ true) c.modulus.ensures.value
          (is_zero c.modulus.result w.if-modulus-gt0.false))) ∙ c.loop-i.invariant)
    ]

pub returns : goal.returns
returns c =
    let self = c.args.self.now in
    let moduli = (fields_at self.shape.now self.node).moduli in
    let end : length moduli ≤ c.loop-i.i =
    omega (arith, depth_at self.shape.now self.node, c.loop-i-test.false, c.depth-i-end.ensures) in
    sym (append-nil c.loop-i.out.items)
    ∙ ap (λ ms. c.loop-i.out.items ++ registers_text c.loop-i.before.now
    (had ms (drop c.loop-i.i c.args.state.now.registers))) (sym (drop_all c.loop-i.i moduli end))
    ∙ c.loop-i.invariant
