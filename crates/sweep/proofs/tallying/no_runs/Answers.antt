use Rattle.std.proofs.Common.{◌≡◌, ℕ, ◌+◌, length, ap, ap₂, ◌-◌, ◌∙◌, arith}
use Rattle.sweep.proofs.Tallied.{all_begun, begun_more, all_none, all_roomy}
use Rattle.sweep.proofs.tallying.no_runs.Goals as goal

pub loop-j-preserved : goal.loop-j-preserved
loop-j-preserved c =
    begun_more c.args.script.now c.loop-j.j c.era_start-first.result
    (c.era_end.result - c.era_start-first.result) c.loop-j.tally.items c.push.new.self.items
    c.in_ok-era.era c.era_start-first.ensures
    (ap₂ (λ (a b : ℕ). a - b) c.era_end.ensures c.era_start-first.ensures) c.in_ok-era.ensures
    c.loop-j.invariant c.in-Ok.ensures.items

pub returns-clause-none : goal.returns-clause-none
returns-clause-none c =
    let script = c.args.script.now in
    let all : c.loop-j.j ≡ length script.eras + 1 =
    omega (arith, c.loop-j-test.false, c.loop-j.auto.j-end, c.eras-j-end.ensures.value) in
    all_none script c.loop-j.tally.items
    (c.loop-j.invariant ∙ ap (all_begun script) all)

pub returns-clause-room : goal.returns-clause-room
returns-clause-room c =
    let script = c.args.script.now in
    let all : c.loop-j.j ≡ length script.eras + 1 =
    omega (arith, c.loop-j-test.false, c.loop-j.auto.j-end, c.eras-j-end.ensures.value) in
    all_roomy script c.loop-j.tally.items (c.loop-j.invariant ∙ ap (all_begun script) all)
    c.rounds-rounds.ensures.script
