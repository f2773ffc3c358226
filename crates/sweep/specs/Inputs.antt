-- The sweep of an input, or why there is none: the refusal of its first line that fails, or that it
-- says no noise.
use Rattle.std.specs.Prelude.{ℕ, List, [], ◌∷◌, length, ◌||◌, not, nat_lt, Bool, false, codes}
use Rattle.std.specs.Prelude.{if◌then◌else◌, Result, Ok, Err}
use Rattle.std.specs.List.{range_with_len}
use Rattle.std.specs.Str.{bytes_eq}
use Rattle.texts.specs.Lines.{lines_of}
use Rattle.texts.specs.Parts.{is_skipped}
use Rattle.adversary_script.specs.NoiseSaid.{says_noise}
use Rattle.outcomes.specs.Inputs.{Scripted, scripted_of}
use Rattle.outcomes.specs.declared.refusals.Refusal.{Refusal}
use Rattle.program_words.specs.Conduct.{and_then}
use Rattle.halving_plan.specs.Laws.{machine_in}
use Rattle.halving_runs.specs.RunInputs as halving
use Rattle.halving_runs.specs.declared.errors.RunRefusal.{RunRefusal}
use Rattle.sweep.specs.Sweeps.{Swept, on_plan, on_machine}
use Rattle.sweep.specs.SweepTexts.{sweep_text}
use Rattle.sweep.specs.NumberRanges.{NumberRange}
use Rattle.sweep.specs.declared.reasons.SweepReason.{SweepReason}
use Rattle.sweep.specs.declared.reasons.SweepReason.TheVariants as reason

-- the first line that counts is that of a halving plan; a line of more than 4096 bytes counts
abbrev pub begin_halving : List (List ℕ) → Bool
begin_halving [] = false
begin_halving (line ∷ lines) =
    if nat_lt 4096 (length line) || not (is_skipped line) then bytes_eq line (codes "halving 1")
    else begin_halving lines

abbrev pub is_halving : (input : List ℕ) → Bool
is_halving input = begin_halving (lines_of input)

-- a plan and a script, or the refusal of one of their lines
abbrev pub boosting_read : Result Scripted Refusal → Result Scripted SweepReason
boosting_read (Ok scripted) = Ok scripted
boosting_read (Err refusal) = Err (reason.Boosting refusal)

abbrev pub halving_read : Result halving.Scripted RunRefusal → Result halving.Scripted SweepReason
halving_read (Ok scripted) = Ok scripted
halving_read (Err refusal) = Err (reason.Halving refusal)

-- a script on a plan, and on a halving plan
abbrev pub swept_on_plan : Result Scripted Refusal → Result Swept SweepReason
swept_on_plan read =
    and_then (boosting_read read) (λ scripted. Ok (on_plan scripted.plan scripted.script))

abbrev pub swept_on_halving : Result halving.Scripted RunRefusal → Result Swept SweepReason
swept_on_halving read =
    and_then (halving_read read)
    (λ scripted. Ok (on_machine (machine_in scripted.plan) scripted.script))

abbrev pub swept_of : (input : List ℕ) → Result Swept SweepReason
swept_of input =
    if is_halving input then swept_on_halving (halving.scripted_of input)
    else swept_on_plan (scripted_of input)

-- the text of the sweep of a script on a counter, if the script says noise
abbrev pub noise_sweep : NumberRange → Swept → Result (List ℕ) SweepReason
noise_sweep numbers swept =
    if says_noise swept.script
    then Ok (sweep_text swept (range_with_len numbers.first numbers.count))
    else Err reason.NoNoise

abbrev pub sweep_of : NumberRange → (input : List ℕ) → Result (List ℕ) SweepReason
sweep_of numbers input = and_then (swept_of input) (noise_sweep numbers)
