use Rattle.std.proofs.Common.{◌%◌, ap, ◌∙◌, arith}
use Rattle.std.proofs.Math.Nat.{mod-add-mod}
use Rattle.adversary_script.proofs.shifting.Modulus.sum.Goals as goal

pub returns : goal.returns
returns c least =
    mod-add-mod c.args.a c.args.self.value (c.args.by % c.args.self.value)
    ∙ ap (λ n. n % c.args.self.value) (omega arith)
    ∙ mod-add-mod c.args.by c.args.self.value c.args.a
    ∙ ap (λ n. n % c.args.self.value) (omega arith)
