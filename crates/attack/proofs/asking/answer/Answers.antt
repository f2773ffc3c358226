use Rattle.std.proofs.Common.{map, sym, ◌∙◌}
use Rattle.std.specs.Prelude.{string_bytes}
use Rattle.attack.proofs.RunsAsked.{asked_have_runs}
use Rattle.attack.proofs.asking.answer.Goals as goal

pub attack_input-requires : goal.attack_input-requires
attack_input-requires g c =
    asked_have_runs (map string_bytes c.args.words.now) c.in-Request.numbers
    (sym c.request_of.ensures ∙ c.in-Request.ensures.request)
