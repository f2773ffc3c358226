use Rattle.std.proofs.Common.{◌≡◌, ℕ, ◌≤◌, ◌%◌, arith, rules}
use Rattle.plan_finder.proofs.Sets.{next_known, not_parted}
use Rattle.plan_finder.proofs.searching.best_at.Goals as goal

pub loop-k-preserved-then-n-k-ne0 : goal.loop-k-preserved-then-n-k-ne0
loop-k-preserved-then-n-k-ne0 c =
    let k : ℕ = c.loop-k.k in
    let some : 3 ≤ k = omega (arith, c.loop-k.auto.k) in
    let not_zero : ¬ (c.args.n % k ≡ 0) = search rules in
    next_known c.args.rows.now.most c.args.n k c.args.g 0
    (not_parted c.args.rows.now.most c.args.n k c.args.g some not_zero)
    c.loop-k.best c.loop-k.invariant
