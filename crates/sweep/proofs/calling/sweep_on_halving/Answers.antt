use Rattle.std.proofs.Common.{Ok, Result, ap, refl}
use Rattle.program_words.proofs.Answered.{answers_as, answers_fails, fails_then}
use Rattle.program_words.specs.Conduct.{and_then}
use Rattle.halving_plan.specs.Laws.{machine_in}
use Rattle.halving_runs.specs.RunInputs as halving
use Rattle.sweep.specs.Inputs.{noise_sweep, halving_read, swept_on_halving}
use Rattle.sweep.specs.Sweeps.{Swept, on_machine}
use Rattle.sweep.specs.declared.reasons.SweepReason.{SweepReason}
use Rattle.sweep.proofs.Answered.{halving_are}
use Rattle.sweep.proofs.calling.sweep_on_halving.Goals as goal

pub returns-in_err-machine-clause-answers : goal.returns-in_err-machine-clause-answers
returns-in_err-machine-clause-answers g c =
    let read = halving.scripted_of c.args.input.now in
    answers_fails _ _ _ _
    (fails_then _ (swept_on_halving read) (noise_sweep c.args.numbers) _ refl
    (fails_then (swept_on_halving read) (halving_read read)
    (λ scripted. Ok (on_machine (machine_in scripted.plan) scripted.script)) _ refl
    c.in_err-machine.ensures.fails))
    c.from_residual.ensures.1

pub returns-clause-answers : goal.returns-clause-answers
returns-clause-answers g c =
    answers_as _ _ _ _ _
    (ap (λ (x : Result Swept SweepReason). and_then x (noise_sweep c.args.numbers))
    (halving_are c.args.input.now _ c.in_ok-machine.ensures.read _ c.in_ok-runner.ensures))
    c.sweep_noise.ensures.sweeps
