use Rattle.std.proofs.Common.{◌≡◌, ◌∙◌}
use Rattle.node_words.specs.Rules.{rule_word, part_word}
use Rattle.outcomes.proofs.refusals.put_refusal.Goals as goal

pub returns-in-Plan : goal.returns-in-Plan
returns-in-Plan g c = rw (c.in-Plan.is, ← c.premise_word-word.ensures) c.put_failed.ensures

pub returns-in-Part : goal.returns-in-Part
returns-in-Part g c =
    let name : c.as_bytes.result.now ≡ part_word c.in-Part.part =
    c.as_bytes.ensures.value ∙ c.part_word.ensures in
    let word : c.as_bytes-in-Part.result.now ≡ rule_word c.in-Part.rule =
    c.as_bytes-in-Part.ensures.value ∙ c.rule_word.ensures in
    rw (c.in-Part.is, ← name, ← word) c.put_pieces.ensures

pub returns-in-Table : goal.returns-in-Table
returns-in-Table g c = rw (c.in-Table.is, ← c.cause_word-word.ensures) c.put_failed-in-Table.ensures
