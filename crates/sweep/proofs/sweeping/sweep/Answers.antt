use Rattle.std.proofs.Common.{ap, ap₂, List, ◌++◌, ℕ, subst, ◌∙◌}
use Rattle.std.specs.List.{flat_map, range_with_len}
use Rattle.texts.specs.Growth.{Wrote, Cut}
use Rattle.program_words.proofs.Answered.{writes_cut}
use Rattle.sweep.specs.SweepTexts.{bound_line}
use Rattle.sweep.specs.Tallies.{runs_text, EraRuns}
use Rattle.sweep.proofs.Texts.{tally_text}
use Rattle.sweep.proofs.sweeping.sweep.Goals as goal

pub returns-in_err-write_tally-clause-text : goal.returns-in_err-write_tally-clause-text
returns-in_err-write_tally-clause-text g c =
    let swept = g.R.Sweepable.swept c.args.runner.now in
    let seeds = range_with_len c.args.first c.args.count in
    let text = ap₂ (λ (x y : List ℕ). x ++ y) (ap bound_line c.bound-bound.ensures)
    (ap (λ (tally : List EraRuns). flat_map runs_text tally) c.deref.ensures.value
    ∙ tally_text swept.locks swept.script seeds c.in_ok-tally.tally.items
    c.in_ok-tally.ensures.tally) in
    writes_cut _ _ _ _ c.from_residual-in_err-write_tally.ensures.1
    (subst (λ (text : List ℕ). Cut text (g.K.Sink.told c.args.sink.now)
    (g.K.Sink.told c.write_tally.new.sink)) text c.in_err-write_tally.ensures)

pub returns-clause-text : goal.returns-clause-text
returns-clause-text g c =
    let swept = g.R.Sweepable.swept c.args.runner.now in
    let seeds = range_with_len c.args.first c.args.count in
    let text = ap₂ (λ (x y : List ℕ). x ++ y) (ap bound_line c.bound-bound.ensures)
    (ap (λ (tally : List EraRuns). flat_map runs_text tally) c.deref.ensures.value
    ∙ tally_text swept.locks swept.script seeds c.in_ok-tally.tally.items
    c.in_ok-tally.ensures.tally) in
    subst (λ (text : List ℕ). Wrote text (g.K.Sink.told c.args.sink.now)
    (g.K.Sink.told c.write_tally.new.sink)) text c.in_ok-write_tally.ensures
