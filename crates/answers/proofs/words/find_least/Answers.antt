use Rattle.std.proofs.Common.{refl}
use Rattle.sync_types.specs.declared.answers.Part.TheVariants as part
use Rattle.plan_finder.specs.FindPart.{want_of}
use Rattle.outcomes.specs.Inputs.{in_part, or_refusal}
use Rattle.outcomes.specs.Answers.{text_for_want}
use Rattle.answers.specs.declared.errors.Unanswered.TheVariants as end
use Rattle.answers.proofs.Unwritten.{refuses_part, refuses_text, refused_as, unread, unwritten}
use Rattle.answers.proofs.words.find_least.Goals as goal

pub returns-in-Err : goal.returns-in-Err
returns-in-Err g c =
    refused_as (Unit {0}) g.K.Sink.told _ _ _ _
    (refuses_text text_for_want _ (or_refusal (in_part part.Find) (want_of c.args.input.now))
    (refuses_part part.Find _ _ c.in-Err.ensures.exact))
    c.unread.ensures

pub returns-in_err-found : goal.returns-in_err-found
returns-in_err-found g c =
    unread g.K.Sink.told _ _ end.NoMemory _ tt c.from_residual.ensures.1

pub returns-in_err-write_found : goal.returns-in_err-write_found
returns-in_err-write_found g c =
    let text = c.in_ok-found.ensures.exact in
    unwritten g.K.Sink.told _ _ _ _ _ (rw (c.in-Ok.ensures.exact, ← text.0, ← text.1) refl)
    c.from_residual-in_err-write_found.ensures.1 c.in_err-write_found.ensures

pub returns : goal.returns
returns g c =
    let text = c.in_ok-found.ensures.exact in
    rw (c.in-Ok.ensures.exact, ← text.0, ← text.1) c.in_ok-write_found.ensures
