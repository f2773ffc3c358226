use Rattle.std.proofs.Math.Nat.{mod-add-mod}
use Rattle.run_explanations.proofs.searching.next_part.Goals as goal

pub returns-clause-value : goal.returns-clause-value
returns-clause-value c = mod-add-mod c.args.part c.args.top.numbers.beat 1
