use Rattle.std.proofs.Common.{Ok, Result, ap, refl}
use Rattle.outcomes.specs.Inputs.{scripted_of}
use Rattle.program_words.proofs.Answered.{answers_as, answers_fails, fails_then}
use Rattle.program_words.specs.Conduct.{and_then}
use Rattle.sweep.specs.Inputs.{boosting_read, noise_sweep, swept_on_plan}
use Rattle.sweep.specs.Sweeps.{Swept, on_plan}
use Rattle.sweep.specs.declared.reasons.SweepReason.{SweepReason}
use Rattle.sweep.proofs.Answered.{plan_is}
use Rattle.sweep.proofs.calling.sweep_on_plan.Goals as goal

pub returns-in_err-runner-clause-answers : goal.returns-in_err-runner-clause-answers
returns-in_err-runner-clause-answers g c =
    let read = scripted_of c.args.input.now in
    answers_fails _ _ _ _
    (fails_then _ (swept_on_plan read) (noise_sweep c.args.numbers) _ refl
    (fails_then (swept_on_plan read) (boosting_read read)
    (λ scripted. Ok (on_plan scripted.plan scripted.script)) _ refl
    c.in_err-runner.ensures.fails))
    c.from_residual.ensures.1

pub returns-clause-answers : goal.returns-clause-answers
returns-clause-answers g c =
    answers_as _ _ _ _ _
    (ap (λ (x : Result Swept SweepReason). and_then x (noise_sweep c.args.numbers))
    (plan_is c.args.input.now _ c.in_ok-runner.ensures.read))
    c.sweep_noise.ensures.sweeps
