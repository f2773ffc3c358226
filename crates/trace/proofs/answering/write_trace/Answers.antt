use Rattle.std.proofs.Common.{map, sym, ◌∙◌, ap, refl}
use Rattle.std.specs.Prelude.{string_bytes}
use Rattle.trace.specs.Answers.{fails_at_first}
use Rattle.program_words.proofs.Answered.{answers_as}
use Rattle.trace.proofs.HalvingTraced.{of_read, of_boosting, refused}
use Rattle.trace.proofs.answering.write_trace.Goals as goal

pub returns-in_ok-runner-in-Ok : goal.returns-in_ok-runner-in-Ok
returns-in_ok-runner-in-Ok g c =
    answers_as _ _ _ _ _
    (of_read c.args.want (map string_bytes c.args.words.now) c.args.input.now _ c.in-Ok.ensures
    c.in_ok-runner-in-Ok.runner c.in_ok-runner-in-Ok.ensures)
    c.write_halving_trace.ensures

pub returns-then-fails_at_first : goal.returns-then-fails_at_first
returns-then-fails_at_first g c =
    let refusal = c.in-Err-Refused.refusal in
    let fails = rw c.in-Err-Refused.field-0-is at c.in-Err-Refused.ensures in
    answers_as _ _ _ _ _
    (of_boosting c.args.want (map string_bytes c.args.words.now) c.args.input.now refusal fails
    (ap (λ first. fails_at_first first refusal) (sym c.first_unskipped.ensures)
    ∙ (sym c.fails_at_first.ensures ∙ c.if-fails_at_first.true)))
    c.write_boosting_trace.ensures

pub returns-else-fails_at_first : goal.returns-else-fails_at_first
returns-else-fails_at_first g c =
    let refusal = c.in-Err-Refused.refusal in
    let fails = rw c.in-Err-Refused.field-0-is at c.in-Err-Refused.ensures in
    let is = refused c.args.want (map string_bytes c.args.words.now) c.args.input.now refusal fails
    (ap (λ first. fails_at_first first refusal) (sym c.first_unskipped.ensures)
    ∙ (sym c.fails_at_first.ensures ∙ c.if-fails_at_first.false)) in
    (is, refl)

pub returns-in-Err-WriteFault : goal.returns-in-Err-WriteFault
returns-in-Err-WriteFault g c =
    absurd (rw c.in-Err-WriteFault.field-0-is at c.in-Err-WriteFault.ensures)
