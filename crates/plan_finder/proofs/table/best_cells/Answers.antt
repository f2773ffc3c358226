use Rattle.std.proofs.Common.{◌≡◌, ◌++◌, ◌∷◌, [], sym, subst, rules}
use Rattle.plan_finder.specs.Best.{AreBest}
use Rattle.plan_finder.proofs.Sets.{cells_more}
use Rattle.plan_finder.proofs.table.best_cells.Goals as goal

pub loop-g-preserved : goal.loop-g-preserved
loop-g-preserved c =
    let more = cells_more c.args.most c.args.width c.loop-n.n c.loop-g.g c.loop-g.cells.items
    c.best_at-best.result c.loop-g-test.true c.loop-g.invariant.size c.loop-g.invariant.best
    c.best_at-best.ensures in
    let items : c.push.new.self.items
    ≡ c.loop-g.cells.items ++ c.best_at-best.result ∷ [] = search rules in
    record { best = subst (AreBest c.args.most c.args.width) (sym items) more; size = search rules }
