use Rattle.std.proofs.Common.{rules, ◌≡◌}
use Rattle.construction.specs.Steps.{state_of}
use Rattle.state_codec.specs.Shapes.{fields_at}
use Rattle.state_codec.proofs.Lows.{fields_limited}
use Rattle.adversary_script.specs.Lies.{fitted}
use Rattle.adversary_script.proofs.Fitted.{fitted_in_range}
use Rattle.adversary_script.proofs.shifting.Source.fit_into.Goals as goal

pub returns-clause-range : goal.returns-clause-range
returns-clause-range c =
    let shape = c.args.self.now.config.now.shape in
    let states = c.args.self.now.config.now.current in
    let is : c.fit_registers.new.out ≡ fitted (fields_at shape c.args.self.now.v)
    (state_of states c.args.self.now.w) = search rules in
    rw is (fitted_in_range (fields_at shape c.args.self.now.v) (state_of states c.args.self.now.w)
    (fields_limited shape c.args.self.now.v c.facts.ensures.sound))
