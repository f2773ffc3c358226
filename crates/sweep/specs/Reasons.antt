-- Why there is no sweep of an input: the line that says so, and the exit code.
use Rattle.std.specs.Prelude.{ℕ, List, codes}
use Rattle.sync_types.specs.Codes.{code_of}
use Rattle.outcomes.specs.Refusals.{refusal_line, refusal_status}
use Rattle.halving_runs.specs.RunTexts as halving
use Rattle.sweep.specs.declared.reasons.SweepReason.{SweepReason}
use Rattle.sweep.specs.declared.reasons.SweepReason.TheVariants as reason

abbrev pub usage_text : List ℕ
usage_text = codes "usage: sweep FIRST COUNT, or sweep --help\n"

-- An input that is refused has the line of `counterlab run`, and one with a halving plan that of
-- `halvinglab run`.
abbrev pub reason_text : SweepReason → List ℕ
reason_text (reason.Boosting refusal) = refusal_line refusal
reason_text (reason.Halving refusal) = halving.refusal_line refusal
reason_text reason.NoNoise = codes "refused script: it says no noise, so all runs would be one\n"

-- the code is that of `run` for the same cause, and of a script without noise that of a refused one
abbrev pub code_for : SweepReason → ℕ
code_for (reason.Boosting refusal) = code_of (refusal_status refusal)
code_for (reason.Halving refusal) = halving.refusal_code refusal
code_for reason.NoNoise = 3
