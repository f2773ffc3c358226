use Rattle.std.proofs.Common.{◌∙◌, sym, ap, arith, slice_index}
use Rattle.std.proofs.lemmas.List.FromFn.{fill_by_all}
use Rattle.sync_types.specs.States.{register_at, zero_register}
use Rattle.construction.specs.Steps.{state_of}
use Rattle.state_codec.specs.Shapes.{Shape, fields_at}
use Rattle.state_codec.proofs.Lows.{depth_at}
use Rattle.state_codec.proofs.RegisterSteps.{state_is}
use Rattle.adversary_script.specs.Lies.{shifted_register}
use Rattle.adversary_script.proofs.shifting.Source.shift_registers.Goals as goal

pub returns : goal.returns
returns c =
    let shape = c.args.self.now.config.now.shape in
    let state = state_of c.args.self.now.config.now.current c.args.self.now.w in
    let moduli = (fields_at shape c.args.self.now.v).moduli in
    let size = depth_at shape c.args.self.now.v in
    let depth = ap (λ (s : Shape). s.depth) c.shape.ensures in
    state_is c.loop-i.out _ _ c.loop-i.invariant.number
    (fill_by_all (λ i. shifted_register c.args.by (slice_index moduli i) (register_at i state))
    c.loop-i.out.registers _ zero_register (c.loop-i.invariant.depth ∙ sym size)
    (λ k lt. c.loop-i.invariant.filled k (omega (arith, size, depth))))
