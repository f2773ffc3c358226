use Rattle.std.proofs.Common.{arith, ◌≤◌, ◌+◌, sym, ap, ◌∙◌}
use Rattle.state_codec.specs.Bits.{bits}
use Rattle.state_codec.proofs.Numbers.{bits_push}
use Rattle.state_codec.proofs.Steps.{shifted_in, joined_below}
use Rattle.state_codec.proofs.pieces.SizedNumber.joined.Goals as goal

pub invariant_of-result : goal.invariant_of-result
invariant_of-result c =
    let most : c.args.self.size + c.args.next.size ≤ 64 = omega (arith, c.requires) in
    let both = shifted_in c.args.self.value c.args.self.size c.args.next.size c.args.next.value
    c.args.self.fits c.args.next.fits most in
    record {
      short = c.requires;
      fits = rw both (joined_below c.args.self.value c.args.self.size c.args.next.size
          c.args.next.value c.args.self.fits c.args.next.fits);
    }

pub returns-clause-text : goal.returns-clause-text
returns-clause-text c =
    let most : c.args.self.size + c.args.next.size ≤ 64 = omega (arith, c.requires) in
    ap (bits (c.args.self.size + c.args.next.size)) (shifted_in c.args.self.value
    c.args.self.size c.args.next.size c.args.next.value c.args.self.fits c.args.next.fits most)
    ∙ sym (bits_push c.args.self.size c.args.next.size c.args.self.value c.args.next.value
    c.args.next.fits)
