use Rattle.std.proofs.Common.{ℕ, ◌*◌, ◌≤◌, arith}
use Rattle.plan_finder.proofs.Sets.{tried_more, next_known, all_narrow}
use Rattle.plan_finder.proofs.searching.best_by.Goals as goal

pub loop-f-preserved : goal.loop-f-preserved
loop-f-preserved c =
    tried_more c.args.rows.now.most c.args.n c.args.last.step.blocks c.args.last.step.faults
    c.args.last.few_blocks.0 c.loop-f.f c.loop-f.best _ c.lesser-best.result c.loop-f.invariant
    c.stepped.ensures c.lesser-best.ensures

pub returns : goal.returns
returns c =
    let k : ℕ = c.args.last.step.blocks in
    let g : ℕ = c.args.last.step.faults in
    let wide : c.args.rows.now.width ≤ c.loop-f.f = omega (arith, c.loop-f-test.false) in
    next_known c.args.rows.now.most (k * c.args.n) k g c.loop-f.f
    (λ level below reaches blocks.
    let narrow = all_narrow c.args.rows.now.most (k * c.args.n) k g c.args.rows.now.width
    c.args.rows.now.sizes.1
    (omega (arith, c.requires.nodes, c.args.last.few_blocks)) level below reaches blocks in
    omega (arith, narrow, wide))
    c.loop-f.best c.loop-f.invariant
