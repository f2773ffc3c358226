use Rattle.std.proofs.Common.{ℕ, sym, ap, ap₂, ◌∙◌, arith}
use Rattle.adversary_script.specs.Scripts.{Script}
use Rattle.edge_io.proofs.Writing.{writes_is}
use Rattle.machine_runner.specs.Runners.{Running}
use Rattle.machine_runner.specs.ShownTexts.{shown_line}
use Rattle.machine_runner.proofs.PlayedOn.{script_is}
use Rattle.machine_runner.proofs.LinesSoFar.{lines_begin, lines_go_on, lines_stop, lines_end}
use Rattle.machine_runner.proofs.playing.put_lines.Goals as goal

pub loop-t-init : goal.loop-t-init
loop-t-init g c =
    let first = c.shown-first.ensures.first
    ∙ ap (λ (s : Script). s.first) c.script-script.ensures in
    lines_begin _ _ _ _ _ _ _ first c.requires

pub returns-then-has_failed-clause-lines : goal.returns-then-has_failed-clause-lines
returns-then-has_failed-clause-lines g c =
    let last = c.shown-first.ensures.last
    ∙ ap (λ (s : Script). s.last) c.script-script.ensures in
    lines_stop _ _ _ _ _ _ _ _ _ c.loop-t.invariant (omega (arith, last, c.loop-t-test.true))
    (sym c.has_failed.ensures ∙ c.if-has_failed.true)

pub returns-then-has_failed-clause-played : goal.returns-then-has_failed-clause-played
returns-then-has_failed-clause-played g c = c.loop-t.invariant.same

pub play_to-requires-clause-from : goal.play_to-requires-clause-from
play_to-requires-clause-from g c = c.loop-t.invariant.before

pub play_to-requires-clause-within : goal.play_to-requires-clause-within
play_to-requires-clause-within g c =
    let here = ap (λ (s : Script). s.rounds)
    (script_is c.args.runner.now _ _ c.loop-t.invariant.same) in
    let rounds = ap (λ (s : Script). s.rounds) c.script-script.ensures in
    let within = c.shown-first.ensures.within in
    omega (arith, here, rounds, within, c.loop-t-test.true)

pub loop-t-preserved : goal.loop-t-preserved
loop-t-preserved g c =
    let first = c.shown-first.ensures.first
    ∙ ap (λ (s : Script). s.first) c.script-script.ensures in
    let front = g.L.ShownLines.front c.args.lines.now in
    let word = g.L.ShownLines.word c.args.lines.now in
    let line = writes_is (ap₂ (λ (r : Running _) (t : ℕ).
    shown_line front word (g.M.Machine.machine r.machine) r.script t) c.new.ensures.runner
    c.new.ensures.number) c.put_line.ensures in
    lines_go_on _ _ _ _ _ _ _ _ _ _ _ c.loop-t.invariant c.play_to.ensures.same
    c.play_to.ensures.most (omega (arith, first, c.loop-t.auto.t)) line

pub new-requires-clause-within : goal.new-requires-clause-within
new-requires-clause-within g c =
    let here = ap (λ (s : Script). s.rounds)
    (script_is c.args.runner.now _ _ c.loop-t.invariant.same) in
    let there = ap (λ (s : Script). s.rounds)
    (script_is c.loop-t.runner _ _ c.play_to.ensures.same) in
    let rounds = ap (λ (s : Script). s.rounds) c.script-script.ensures in
    let within = c.shown-first.ensures.within in
    omega (arith, here, there, rounds, within, c.loop-t-test.true)

pub returns-clause-lines : goal.returns-clause-lines
returns-clause-lines g c =
    let first = c.shown-first.ensures.first
    ∙ ap (λ (s : Script). s.first) c.script-script.ensures in
    let last = c.shown-first.ensures.last
    ∙ ap (λ (s : Script). s.last) c.script-script.ensures in
    let order = c.shown-first.ensures.order in
    lines_end _ _ _ _ _ _ _ _ _ c.loop-t.invariant
    (omega (arith, last, order, first, c.loop-t.auto.t, c.loop-t-test.false))

pub returns-clause-played : goal.returns-clause-played
returns-clause-played g c = c.loop-t.invariant.same
