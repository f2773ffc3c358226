use Rattle.std.proofs.Common.{◌<◌, length, sym, ap, arith}
use Rattle.std.proofs.lemmas.List.{get_or_past}
use Rattle.sync_types.specs.States.{zero_register}
use Rattle.construction.specs.Steps.{state_of}
use Rattle.state_codec.specs.Shapes.{Shape}
use Rattle.adversary_script.proofs.LiesInRange.{depth_of_node}
use Rattle.machine_runner.proofs.locks.Registers.of.Goals as goal

pub returns-else-self-depth : goal.returns-else-self-depth
returns-else-self-depth c =
    let config = c.args.self.now.config.now in
    let lt : c.args.v < length config.current =
    omega (arith, c.requires, c.args.self.now.size) in
    let deep = depth_of_node config.shape c.args.v (state_of config.current c.args.v)
    (c.facts.ensures.current c.args.v lt) in
    sym (get_or_past (state_of config.current c.args.v).registers c.args.self.now.register
    zero_register
    (omega (
      arith,
      deep,
      c.if-self-depth.false,
      c.depth.ensures,
      ap (λ (s : Shape). s.depth) c.shape.ensures,
    )))
