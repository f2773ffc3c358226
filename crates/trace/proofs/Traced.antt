-- What is written of an input, by what was read of it.
use Rattle.std.proofs.Common.{◌≡◌, ℕ, ◌<◌, ◌≤◌, Bool, true, false, List, Result, Ok, Err}
use Rattle.std.proofs.Common.{refl, sym, ap, ap₂, ◌∙◌, subst}
use Rattle.std.specs.Prelude.{not, nat_lt, if◌then◌else◌}
use Rattle.std.specs.Result.{IsErrAnd}
use Rattle.std.proofs.lemmas.Bool.{lt-ltb, le-ltb}
use Rattle.texts.specs.Growth.{SinkState}
use Rattle.construction.specs.Plans.{Plan, plan_nodes, plan_depth}
use Rattle.state_codec.specs.Shapes.{Shape}
use Rattle.state_codec.proofs.Plans.{depth_of_shape}
use Rattle.counter_core.specs.declared.overlays.NoOverlay.{NoOverlay}
use Rattle.round_runner.specs.Runners.{Running}
use Rattle.outcomes.specs.Inputs.{scripted_of}
use Rattle.answers.specs.ScriptedRuns.{IsScriptedRun}
use Rattle.trace.specs.declared.desks.TraceBuffers.{TraceBuffers}
use Rattle.trace.specs.Wanted.{Wanted}
use Rattle.trace.specs.Desks.{IsFitFor, IsMade}
use Rattle.trace.specs.TraceTexts.{trace_text}
use Rattle.program_words.proofs.Answered.{answers_fails, fails_then}
use Rattle.program_words.specs.Conduct.{Answers, FailsAs}
use Rattle.program_words.specs.declared.errors.ProgramError.{ProgramError}
use Rattle.trace.specs.declared.reasons.TraceReason.{TraceReason}
use Rattle.trace.specs.declared.reasons.TraceReason.TheVariants as reason
use Rattle.trace.specs.Answers.{boosting_read, boosting_trace, boosting_trace_or}
use Rattle.trace.specs.Names.{are_nodes, named_nodes}

-- after a reading that failed
pub unread : {T : Type 0} (want : Wanted) (words : List (List ℕ)) (input : List ℕ)
    (result : Result T (ProgramError TraceReason)) (e : ProgramError TraceReason) (s : SinkState)
    → FailsAs (boosting_read (scripted_of input)) e → IsErrAnd result (λ given. given ≡ e)
    → Answers (boosting_trace_or want words (scripted_of input)) result s s
unread want words input result e s fails given =
    let read = boosting_read (scripted_of input) in
    answers_fails result (boosting_trace_or want words (scripted_of input)) e s
    (fails_then (boosting_trace_or want words (scripted_of input)) read
    (boosting_trace want words) e
    refl fails) given

-- ---- what is answered to a plan and a script

module _ (want : Wanted) (words : List (List ℕ)) (input : List ℕ) (plan : Plan)
    (r : Running NoOverlay) (is : IsScriptedRun input (plan, r)) where
  by_tests : (late all : Bool) → nat_lt r.script.rounds want.last ≡ late
      → are_nodes words (plan_nodes plan) ≡ all
      → boosting_trace_or want words (scripted_of input) ≡ (if late then Err reason.NotPlayed
      else if not all then Err reason.NoNode
      else Ok (trace_text plan r.script (named_nodes words (plan_nodes plan)) want.first want.last))
  by_tests late all e e' =
      ap (boosting_trace_or want words) is.read
      ∙ ap₂ (λ (late all : Bool). if late then Err reason.NotPlayed
      else if not all then Err reason.NoNode
      else Ok (trace_text plan r.script (named_nodes words (plan_nodes plan)) want.first want.last))
      e e'

  pub not_played : r.script.rounds < want.last
      → boosting_trace_or want words (scripted_of input) ≡ Err reason.NotPlayed
  not_played lt = by_tests true (are_nodes words (plan_nodes plan)) (lt-ltb _ _ lt) refl

  pub no_node : want.last ≤ r.script.rounds → are_nodes words (plan_nodes plan) ≡ false
      → boosting_trace_or want words (scripted_of input) ≡ Err reason.NoNode
  no_node le none = by_tests false false (le-ltb _ _ le) none

  pub traced : want.last ≤ r.script.rounds → (ids : List ℕ)
      → (are_nodes words (plan_nodes plan) ≡ true) × (ids ≡ named_nodes words (plan_nodes plan))
      → boosting_trace_or want words (scripted_of input)
      ≡ Ok (trace_text r.plan r.script ids want.first want.last)
  traced le ids named =
      by_tests false true (le-ltb _ _ le) named.0
      ∙ ap₂ (λ (p : Plan) (ids : List ℕ). Ok (trace_text p r.script ids want.first want.last))
      (sym is.plan_is) (sym named.1)

  -- ---- what its trace wants

  pub deep : r.script.shape.depth ≡ plan_depth plan
  deep = ap (λ (s : Shape). s.depth) is.records.shape
      ∙ (depth_of_shape r.plan ∙ ap plan_depth is.plan_is)

  pub fits : (depth : ℕ) (desk : TraceBuffers) → depth ≡ r.script.shape.depth
      → IsMade plan depth desk → IsFitFor r desk
  fits depth desk e made =
      subst (λ (p : Plan). IsMade p r.script.shape.depth desk) (sym is.plan_is)
      (subst (λ (d : ℕ). IsMade plan d desk) e made)
