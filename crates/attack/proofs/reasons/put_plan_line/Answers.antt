use Rattle.std.proofs.Common.{◌≡◌, ◌∙◌}
use Rattle.attack.specs.Reasons.{premise_word}
use Rattle.attack.proofs.reasons.put_plan_line.Goals as goal

pub returns : goal.returns
returns g c =
    let word : c.as_bytes.result.now ≡ premise_word c.args.refusal.premise =
    c.as_bytes.ensures.value ∙ c.premise_word.ensures in
    rw (← word) c.put_pieces.ensures
