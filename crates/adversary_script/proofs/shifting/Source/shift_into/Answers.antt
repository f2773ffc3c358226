use Rattle.std.proofs.Common.{rules, ◌≡◌}
use Rattle.construction.specs.Steps.{state_of}
use Rattle.state_codec.specs.Shapes.{fields_at}
use Rattle.state_codec.specs.Ranges.{InRange}
use Rattle.state_codec.proofs.Lows.{fields_limited}
use Rattle.adversary_script.specs.Lies.{shifted}
use Rattle.adversary_script.proofs.Shifted.{shifted_in_range}
use Rattle.adversary_script.proofs.shifting.Source.shift_into.Goals as goal

pub returns-clause-range : goal.returns-clause-range
returns-clause-range c =
    let shape = c.args.self.now.config.now.shape in
    let fields = fields_at shape c.args.self.now.v in
    let state = state_of c.args.self.now.config.now.current c.args.self.now.w in
    let limited = fields_limited shape c.args.self.now.v
    c.facts.ensures.sound in
    let range : InRange fields (shifted c.args.by fields state) = shifted_in_range c.args.by _ state
    limited in
    let is : c.shift_registers.new.out ≡ shifted c.args.by fields state = search rules in
    rw is range
