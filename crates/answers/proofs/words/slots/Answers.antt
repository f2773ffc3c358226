use Rattle.std.proofs.Common.{List, arith, ◌∙◌}
use Rattle.run_lines.specs.HoldTexts.{hold_text}
use Rattle.slot_table.specs.declared.lines.SlotLine.{SlotLine}
use Rattle.outcomes.specs.Layered.{Layered, slotted_of}
use Rattle.answers.specs.declared.errors.Unanswered.TheVariants as end
use Rattle.answers.proofs.ReadLayers.{none_behind}
use Rattle.answers.proofs.LayeredPlays.{slots_text}
use Rattle.answers.proofs.Unwritten.{unread, unread_text, unwritten}
use Rattle.answers.proofs.words.slots.Goals as goal

pub returns-in_err-table : goal.returns-in_err-table
returns-in_err-table g c =
    unread_text g.K.Sink.told
    (λ (l : Layered (List SlotLine)). hold_text l.plan l.script l.said) _
    (slotted_of c.args.input.now) _ _ c.in_err-table.ensures c.from_residual.ensures.1

pub runner_of-requires-clause-over : goal.runner_of-requires-clause-over
runner_of-requires-clause-over g c = λ lt. absurd (omega (arith, lt))

pub runner_of-requires-clause-shape : goal.runner_of-requires-clause-shape
runner_of-requires-clause-shape g c =
    c.in_ok-table.ensures.shape_is ∙ none_behind c.in_ok-table.read.plan 0

pub runner_of-requires-clause-script : goal.runner_of-requires-clause-script
runner_of-requires-clause-script g c = c.in_ok-table.ensures.right

pub returns-in_err-runner : goal.returns-in_err-runner
returns-in_err-runner g c =
    unread g.K.Sink.told _ _ end.NoMemory _ tt c.from_residual-in_err-runner.ensures.1

pub put_counting-requires : goal.put_counting-requires
put_counting-requires g c = c.in_ok-runner.ensures.plays

pub returns-in_err-put_counting : goal.returns-in_err-put_counting
returns-in_err-put_counting g c =
    let read = c.in_ok-table.ensures in
    let begun = c.in_ok-runner.ensures in
    unwritten g.K.Sink.told _ _ _ _ _
    (slots_text c.args.input.now _ _ _ _ read.said _ read.is read.made_is begun.plan_is
    begun.script_is)
    c.from_residual-in_err-put_counting.ensures.1 c.in_err-put_counting.ensures

pub returns : goal.returns
returns g c =
    let read = c.in_ok-table.ensures in
    let begun = c.in_ok-runner.ensures in
    rw (slots_text c.args.input.now _ _ _ _ read.said _ read.is read.made_is begun.plan_is
    begun.script_is) c.in_ok-put_counting.ensures
