use Rattle.std.proofs.Common.{◌∙◌, ◌++◌, ◌∷◌, [], sym, ap}
use Rattle.states.specs.StateWords.{before_comma}
use Rattle.states.proofs.Commas.{last_byte, not_comma, with_comma}
use Rattle.states.proofs.reading.before_comma.Goals as goal

pub returns-then-last-eq44 : goal.returns-then-last-eq44
returns-then-last-eq44 c =
    let front = c.in_ok-last.front.now in
    sym (ap before_comma c.in_ok-last.ensures.cases.0
    ∙ ap (λ b. before_comma (front ++ b ∷ [])) c.if-last-eq44.true
    ∙ with_comma front)

pub returns-else-last-eq44 : goal.returns-else-last-eq44
returns-else-last-eq44 c =
    sym (ap before_comma c.in_ok-last.ensures.cases.0
    ∙ last_byte c.in_ok-last.front.now c.in_ok-last.last.now
    (not_comma c.in_ok-last.last.now c.if-last-eq44.false))
