-- Why there is no trace of an input: the line that says so, and the exit code.
use Rattle.std.specs.Prelude.{ℕ, List, codes}
use Rattle.sync_types.specs.Codes.{code_of}
use Rattle.sync_types.specs.declared.status.Status.TheVariants as status
use Rattle.outcomes.specs.Refusals.{refusal_line, refusal_status}
use Rattle.halving_runs.specs.RunTexts as halving
use Rattle.trace.specs.declared.reasons.TraceReason.{TraceReason}
use Rattle.trace.specs.declared.reasons.TraceReason.TheVariants as reason

abbrev pub usage_text : List ℕ
usage_text = codes "usage: trace FROM TO [NODE ..] < PLAN_AND_SCRIPT, or trace --help\n"

-- An input that is refused has the line of `counterlab run`, and one with a halving plan that of
-- `halvinglab run`.
abbrev pub reason_text : TraceReason → List ℕ
reason_text (reason.Boosting refusal) = refusal_line refusal
reason_text (reason.Halving refusal) = halving.refusal_line refusal
reason_text reason.NotPlayed = codes "refused words: TO is above the script's rounds\n"
reason_text reason.NoNode = codes "refused words: the plan has no such node\n"

-- the code is that of `run` for the same cause, and of words that the input refuses that of words
-- which ask for nothing
abbrev pub code_for : TraceReason → ℕ
code_for (reason.Boosting refusal) = code_of (refusal_status refusal)
code_for (reason.Halving refusal) = halving.refusal_code refusal
code_for reason.NotPlayed = code_of status.Usage
code_for reason.NoNode = code_of status.Usage
