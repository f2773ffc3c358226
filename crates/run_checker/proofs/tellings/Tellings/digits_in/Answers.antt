use Rattle.std.proofs.Common.{◌<◌, length, arith}
use Rattle.run_checker.proofs.NextLies.{next_line}
use Rattle.run_checker.proofs.tellings.Tellings.digits_in.Goals as goal

pub returns : goal.returns
returns c =
    let more : c.self.inside.count < length c.self.inside.pairs.items =
    omega (arith, c.if-self-len.false, c.len.ensures) in
    next_line c.self.inside.shape c.self.inside.pairs.items c.self.inside.digits.items
    c.self.inside.count c.self.invariant c.index.result.now more c.index.ensures _ c.self.view_is
    (λ digits. digits.now) c.digits_in.result c.args.line.now c.digits_in.ensures
