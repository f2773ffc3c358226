-- What is answered to a halving plan and a script, and to an input that is read as them.
use Rattle.std.proofs.Common.{◌≡◌, ℕ, ◌<◌, ◌≤◌, Bool, true, false, List, Result, Ok, Err}
use Rattle.std.proofs.Common.{refl, sym, ap, ap₂, ◌∙◌}
use Rattle.std.specs.Prelude.{not, nat_lt, if◌then◌else◌}
use Rattle.std.proofs.lemmas.Bool.{lt-ltb, le-ltb}
use Rattle.texts.specs.Lines.{lines_of}
use Rattle.adversary_script.specs.Scripts.{Script}
use Rattle.machine_runner.specs.Runners.{Running, begun}
use Rattle.outcomes.specs.Inputs.{scripted_of}
use Rattle.plan_reader.specs.Skipped.{first_unskipped}
use Rattle.halving_plan.specs.Plans.{HalvingNumbers}
use Rattle.halving_runs.specs.Readings.{IsReadAs}
use Rattle.halving_runs.specs.RunInputs as halving
use Rattle.halving_runs.specs.declared.errors.RunRefusal.{RunRefusal}
use Rattle.trace.specs.HalvingTraceTexts.{trace_text}
use Rattle.state_codec.specs.Shapes.{Shape}
use Rattle.trace.specs.Wanted.{Wanted}
use Rattle.trace.specs.declared.reasons.TraceReason.{TraceReason}
use Rattle.trace.specs.declared.reasons.TraceReason.TheVariants as reason
use Rattle.trace.specs.Answers.{fails_at_first, boosting_trace_or, halving_trace, trace_by, trace_of}
use Rattle.trace.specs.Names.{are_nodes, named_nodes}

module _ (want : Wanted) (words : List (List ℕ)) (plan : HalvingNumbers) (script : Script) where
  abbrev pub answer : Result (List ℕ) TraceReason
  answer = halving_trace want words (record { plan = plan; script = script })

  by_tests : (late all : Bool) → nat_lt script.rounds want.last ≡ late
      → are_nodes words plan.nodes ≡ all
      → answer ≡ (if late then Err reason.NotPlayed
      else if not all then Err reason.NoNode
      else Ok (trace_text plan script (named_nodes words plan.nodes) want.first want.last))
  by_tests late all e e' =
      ap₂ (λ (late all : Bool). if late then Err reason.NotPlayed
      else if not all then Err reason.NoNode
      else Ok (trace_text plan script (named_nodes words plan.nodes) want.first want.last)) e e'

  pub not_played : script.rounds < want.last → answer ≡ Err reason.NotPlayed
  not_played lt = by_tests true (are_nodes words plan.nodes) (lt-ltb _ _ lt) refl

  pub no_node : want.last ≤ script.rounds → are_nodes words plan.nodes ≡ false
      → answer ≡ Err reason.NoNode
  no_node le none = by_tests false false (le-ltb _ _ le) none

  pub traced : want.last ≤ script.rounds → (ids : List ℕ)
      → (are_nodes words plan.nodes ≡ true) × (ids ≡ named_nodes words plan.nodes)
      → answer ≡ Ok (trace_text plan script ids want.first want.last)
  traced le ids named =
      by_tests false true (le-ltb _ _ le) named.0
      ∙ ap (λ (ids : List ℕ). Ok (trace_text plan script ids want.first want.last)) (sym named.1)

-- ---- what is answered to an input, by what it is read as

module _ (want : Wanted) (words : List (List ℕ)) (input : List ℕ) where
  pub of_read : (read : HalvingNumbers × Shape × Script) → IsReadAs input read
      → (r : Running HalvingNumbers) → r ≡ begun read.0 read.2
      → trace_of want words input
      ≡ halving_trace want words (record { plan = r.machine; script = r.script })
  of_read read is r same =
      ap (trace_by want words (first_unskipped 1 (lines_of input)) input) is.is
      ∙ ap (λ (r : Running HalvingNumbers).
      halving_trace want words (record { plan = r.machine; script = r.script })) (sym same)

  of_refused : (refusal : RunRefusal) → halving.scripted_of input ≡ Err refusal
      → (at_first : Bool)
      → fails_at_first (first_unskipped 1 (lines_of input)) refusal ≡ at_first
      → trace_of want words input
      ≡ (if at_first then boosting_trace_or want words (scripted_of input)
      else Err (reason.Halving refusal))
  of_refused refusal is at_first e =
      ap (trace_by want words (first_unskipped 1 (lines_of input)) input) is
      ∙ ap (λ (b : Bool). if b then boosting_trace_or want words (scripted_of input)
      else Err (reason.Halving refusal)) e

  -- it is no halving plan
  pub of_boosting : (refusal : RunRefusal) → halving.scripted_of input ≡ Err refusal
      → fails_at_first (first_unskipped 1 (lines_of input)) refusal ≡ true
      → trace_of want words input ≡ boosting_trace_or want words (scripted_of input)
  of_boosting refusal is = of_refused refusal is true

  -- it is refused as one of a halving plan
  pub refused : (refusal : RunRefusal) → halving.scripted_of input ≡ Err refusal
      → fails_at_first (first_unskipped 1 (lines_of input)) refusal ≡ false
      → trace_of want words input ≡ Err (reason.Halving refusal)
  refused refusal is = of_refused refusal is false
