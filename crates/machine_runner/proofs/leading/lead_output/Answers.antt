use Rattle.std.proofs.Common.{sym, ◌∙◌, arith}
use Rattle.std.proofs.lemmas.Bool.{true≢false}
use Rattle.machine_runner.proofs.Counted.{faulty_more}
use Rattle.machine_runner.proofs.leading.lead_output.Goals as goal

pub returns-then-not-is_faulty-clause-shown : goal.returns-then-not-is_faulty-clause-shown
returns-then-not-is_faulty-clause-shown g c = λ output v shows lt correct.
    c.output.ensures.value
    ∙ shows c.loop-v.v (omega (arith, c.loop-v-test.true, c.nodes-v-end.ensures.value))
    (sym c.is_faulty.ensures ∙ c.if-not-is_faulty.true)

pub returns-then-not-is_faulty-clause-most : goal.returns-then-not-is_faulty-clause-most
returns-then-not-is_faulty-clause-most g c =
    let sound = c.facts.ensures.sound in
    let most = sound.most_modulus in
    let below = c.output.ensures.below in
    omega (arith, most, below)

pub loop-v-preserved : goal.loop-v-preserved
loop-v-preserved g c =
    faulty_more c.args.runner.now.script c.args.runner.now.at c.loop-v.v c.loop-v.invariant
    (sym c.is_faulty.ensures ∙ c.if-not-is_faulty.false)

pub returns-clause-shown : goal.returns-clause-shown
returns-clause-shown g c = λ output v shows lt correct.
    absurd (true≢false (sym (c.loop-v.invariant v
    (omega (arith, lt, c.loop-v-test.false, c.nodes-v-end.ensures.value))) ∙ correct))
