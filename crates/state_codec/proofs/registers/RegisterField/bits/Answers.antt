use Rattle.std.proofs.Common.{arith, sym, ap}
use Rattle.std.proofs.lemmas.Bool.{ne_eqb}
use Rattle.state_codec.specs.Bits.{bits}
use Rattle.state_codec.specs.Writing.{bits_of_register}
use Rattle.state_codec.proofs.FullNumbers.{full_number}
use Rattle.state_codec.proofs.registers.RegisterField.bits.Goals as goal

pub returns-then-self-eq0-clause-text : goal.returns-then-self-eq0-clause-text
unfolding bits
returns-then-self-eq0-clause-text c =
    ap (λ m. bits_of_register m c.args.register) (sym c.if-self-eq0.true)

pub invariant_of-result-2 : goal.invariant_of-result-2
invariant_of-result-2 c = record {
  short = omega (arith, c.args.self.short);
  fits = (full_number c.args.self.modulus c.args.self.size c.unwrap_or-value.result
      c.args.register c.args.self.most (ne_eqb c.args.self.modulus 0 c.if-self-eq0.false)
      c.args.self.sized c.requires c.unwrap_or-value.ensures).1;
}

pub returns-clause-text : goal.returns-clause-text
returns-clause-text c = (full_number c.args.self.modulus c.args.self.size c.unwrap_or-value.result
    c.args.register c.args.self.most (ne_eqb c.args.self.modulus 0 c.if-self-eq0.false)
    c.args.self.sized c.requires c.unwrap_or-value.ensures).0
