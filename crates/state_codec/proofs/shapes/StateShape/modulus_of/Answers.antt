use Rattle.std.proofs.Common.{arith, length, ap}
use Rattle.state_codec.specs.Shapes.{Fields}
use Rattle.state_codec.proofs.Lows.{depth_at}
use Rattle.state_codec.proofs.shapes.StateShape.modulus_of.Goals as goal

pub register-requires : goal.register-requires
register-requires c = omega (
  arith,
  c.requires.register,
  ap (λ (f : Fields). length f.moduli) c.fields.ensures,
  depth_at c.args.self.now c.args.v,
)
