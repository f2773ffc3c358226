use Rattle.std.proofs.Common.{◌≡◌, Bool, List, ℕ, Result, Ok, Err, true, ap, rules}
use Rattle.std.specs.Prelude.{if◌then◌else◌}
use Rattle.std.specs.List.{range_with_len}
use Rattle.adversary_script.specs.NoiseSaid.{says_noise}
use Rattle.program_words.proofs.Answered.{answers_text}
use Rattle.sweep.specs.SweepTexts.{sweep_text}
use Rattle.sweep.specs.declared.reasons.SweepReason.{SweepReason}
use Rattle.sweep.specs.declared.reasons.SweepReason.TheVariants as reason
use Rattle.sweep.proofs.calling.sweep_noise.Goals as goal

pub returns-clause-sweeps : goal.returns-clause-sweeps
returns-clause-sweeps g c =
    let swept = g.R.Sweepable.swept c.args.runner.now in
    let text = sweep_text swept (range_with_len c.args.numbers.first c.args.numbers.count) in
    let noise : says_noise swept.script ≡ true = search rules in
    answers_text _ _ text _ _
    (ap (λ (says : Bool). let r : Result (List ℕ) SweepReason =
    if says then Ok text else Err reason.NoNoise in r) noise)
    (rw c.first-first.ensures at (rw c.count-count.ensures.value at c.sweep.ensures.text))

pub returns-clause-progress : goal.returns-clause-progress
returns-clause-progress g c = rw c.count-count.ensures.value at c.sweep.ensures.progress
