-- What a trace answers to an input: its text, or why there is none.
use Rattle.std.specs.Prelude.{ℕ, List, nat_lt, not, ◌==◌, Bool, true, false, Option, Some, None}
use Rattle.std.specs.Prelude.{Result, Ok, Err, if◌then◌else◌}
use Rattle.texts.specs.Lines.{lines_of}
use Rattle.construction.specs.Plans.{plan_nodes}
use Rattle.plan_reader.specs.Skipped.{first_unskipped}
use Rattle.outcomes.specs.declared.refusals.Refusal.{Refusal}
use Rattle.outcomes.specs.Inputs.{Scripted, scripted_of}
use Rattle.program_words.specs.Conduct.{and_then}
use Rattle.halving_runs.specs.declared.errors.RunRefusal.{RunRefusal}
use Rattle.halving_runs.specs.declared.errors.RunRefusal.TheVariants as refusal
use Rattle.halving_runs.specs.RunInputs as halving
use Rattle.trace.specs.HalvingTraceTexts as halving_texts
use Rattle.trace.specs.Wanted.{Wanted}
use Rattle.trace.specs.TraceTexts.{trace_text}
use Rattle.trace.specs.Names.{are_nodes, named_nodes}
use Rattle.trace.specs.declared.reasons.TraceReason.{TraceReason}
use Rattle.trace.specs.declared.reasons.TraceReason.TheVariants as reason

-- the line is the first one that counts, or no line does
abbrev pub is_first : Option ℕ → (line : ℕ) → Bool
is_first None line = true
is_first (Some first) line = first == line

-- it is refused as a halving plan for its first line that counts
abbrev pub fails_at_first : Option ℕ → RunRefusal → Bool
fails_at_first first (refusal.Plan line premise) = is_first first line
fails_at_first first (refusal.Part part line rule) = false

-- a plan and a script, or the refusal of one of their lines
abbrev pub boosting_read : Result Scripted Refusal → Result Scripted TraceReason
boosting_read (Ok scripted) = Ok scripted
boosting_read (Err refusal) = Err (reason.Boosting refusal)

module _ (want : Wanted) (words : List (List ℕ)) where
  -- of a boosting plan and a script: the words are refused if the last wanted configuration is not
  -- played, or a word names no node
  abbrev pub boosting_trace : Scripted → Result (List ℕ) TraceReason
  boosting_trace s =
      if nat_lt s.script.rounds want.last then Err reason.NotPlayed
      else if not (are_nodes words (plan_nodes s.plan)) then Err reason.NoNode
      else Ok (trace_text s.plan s.script (named_nodes words (plan_nodes s.plan)) want.first
      want.last)

  abbrev pub boosting_trace_or : Result Scripted Refusal → Result (List ℕ) TraceReason
  boosting_trace_or read = and_then (boosting_read read) boosting_trace

  -- and of a halving plan and a script
  abbrev pub halving_trace : halving.Scripted → Result (List ℕ) TraceReason
  halving_trace s =
      if nat_lt s.script.rounds want.last then Err reason.NotPlayed
      else if not (are_nodes words s.plan.nodes) then Err reason.NoNode
      else Ok (halving_texts.trace_text s.plan s.script (named_nodes words s.plan.nodes) want.first
      want.last)

  -- By what an input is as a halving plan and a script: if its first line that counts is not that of
  -- a halving plan, the input is read as a boosting plan and a script.
  abbrev pub trace_by : (first : Option ℕ) → (input : List ℕ)
      → Result halving.Scripted RunRefusal → Result (List ℕ) TraceReason
  trace_by first input (Ok s) = halving_trace s
  trace_by first input (Err refused) =
      if fails_at_first first refused then boosting_trace_or (scripted_of input)
      else Err (reason.Halving refused)

  abbrev pub trace_of : (input : List ℕ) → Result (List ℕ) TraceReason
  trace_of input = trace_by (first_unskipped 1 (lines_of input)) input (halving.scripted_of input)
