use Rattle.std.proofs.Common.{◌≡◌, ◌∙◌}
use Rattle.node_words.specs.Rules.{rule_word, part_word}
use Rattle.halving_runs.proofs.refusals.put_refusal.Goals as goal

pub returns-in-Part : goal.returns-in-Part
returns-in-Part g c =
    let name : c.as_bytes.result.now ≡ part_word c.in-Part.part =
    c.as_bytes.ensures.value ∙ c.part_word.ensures in
    let word : c.as_bytes-in-Part.result.now ≡ rule_word c.in-Part.rule =
    c.as_bytes-in-Part.ensures.value ∙ c.rule_word.ensures in
    rw (c.in-Part.is, ← name, ← word) c.put_pieces.ensures
