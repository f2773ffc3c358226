use Rattle.std.proofs.Common.{◌-◌, sym, ap, ◌∙◌}
use Rattle.attack.specs.Attacks.{Attack}
use Rattle.attack.specs.Lean.{without_lie, kept_by}
use Rattle.attack.specs.declared.searching.Best.{Best}
use Rattle.attack.proofs.LeanBests.{leaner_more}
use Rattle.attack.proofs.targets.Target.lean.Goals as goal

pub loop-i-preserved : goal.loop-i-preserved
loop-i-preserved g c =
    let machine = g.M.Machine.machine c.args.self.now.machine in
    let shape = c.args.self.now.shape in
    let line = c.args.self.now.first_line in
    let place = c.len-count.result - 1 - c.loop-i.i in
    c.in_ok-last.ensures
    ∙ ap (λ (attack : Attack). kept_by machine shape line c.loop-i.last attack)
    c.in_ok-attack.ensures
    ∙ ap (λ (now : Best). kept_by machine shape line now (without_lie place now.attack))
    c.loop-i.invariant
    ∙ sym (leaner_more machine shape line c.len-count.result c.args.best c.loop-i.i)
