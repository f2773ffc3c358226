-- If an input is a plan and a script, the promise is kept.
use Rattle.std.proofs.Common.{◌≡◌, ℕ, ◌+◌, ◌≤◌, [], length, Some, Result, Ok, Err, ap, subst}
use Rattle.std.proofs.Common.{arith}
use Rattle.std.specs.Prelude.{IfOk}
use Rattle.std.proofs.lemmas.List.Elements.{All-get_or}
use Rattle.std.proofs.lemmas.List.{length-map}
use Rattle.construction.specs.Plans.{Plan, plan_bound}
use Rattle.construction.specs.Runs.{IsToleratedBy, IsLocked}
use Rattle.adversary_script.specs.Scripts.{Script, Era, faulty_sets}
use Rattle.adversary_script.specs.Eras.{era_of, first_of_era, faulty_of_era, faulty_at}
use Rattle.round_runner.specs.Locks.{first_locked, era_locked, IsFirstLocked}
use Rattle.round_runner.specs.Played.{played_at}
use Rattle.round_runner.specs.Laws.{IsUpTo, IsReadFor, EraCountsFrom, EraStaysLocked}
use Rattle.round_runner.specs.Laws.{EachIsOfOneEra, ErasAreRuns, ErasLock, ErasCount}
use Rattle.round_runner.specs.Laws.{ErasStayLocked}
use Rattle.round_runner.proofs.FirstLocked.{first_is_locked}
use Rattle.run_explanations.specs.Laws.{ExplainedErasLock, LongErasAreExplained, FoundIsFirst}
use Rattle.promises.specs.PlainRuns.{PlainScriptsArePlayed}
use Rattle.promises.specs.WrittenLines.{TextsAreWritten}
use Rattle.run_lines.specs.RunTexts.{number_word}
use Rattle.run_lines.proofs.FirstListed.{first_listed}
use Rattle.promises.proofs.ExplainLaws.{why_is_true, base_is_said}
use Rattle.outcomes.specs.declared.refusals.Refusal.{Refusal}
use Rattle.run_lines.specs.RowTexts.{lock_played}
use Rattle.outcomes.specs.Inputs.{Scripted, scripted_of}
use Rattle.outcomes.proofs.ScriptedRead.{IsRead, scripted_read}
use Rattle.promises.specs.Laws.{RowsCountFrom, EraKeepsPromise, KeepsPromise, PromiseIsKept}

module _ (plan : Plan) (script : Script) (read : IsReadFor plan script) (j : ℕ)
    (among : j ≤ length script.eras) where
  -- what nodes show is what is written of them
  rows_count : (from : ℕ) → EraCountsFrom plan script j from → RowsCountFrom plan script j from
  rows_count from counts = record {
    output = counts.output;
    words = λ t v lo hi lt correct. rw correct (ap number_word (counts.shows t lo hi v lt correct));
    grows = counts.grows;
  }

  borne_in : IsToleratedBy plan (faulty_of_era script j)
  borne_in = All-get_or (IsToleratedBy plan) (faulty_sets script) j []
      (omega (arith, among, length-map script.eras (λ (era : Era). era.faulty))) read.right.borne

  -- the first number that passes the test is the first locked configuration
  same_lock : first_locked (era_locked plan script (played_at plan script) j) script.rounds
      ≡ lock_played plan script j
  same_lock = first_listed (era_locked plan script (played_at plan script) j) script.rounds

  locked_first : IsFirstLocked plan script (played_at plan script) j script.rounds
      (lock_played plan script j)
  locked_first = subst (IsFirstLocked plan script (played_at plan script) j script.rounds) same_lock
      (first_is_locked plan script (played_at plan script) read.whole j script.rounds among
      (omega arith))

  -- it is locked, so from it on it stays locked, and the outputs count
  from_locked : EachIsOfOneEra → ErasStayLocked → (w : ℕ) → lock_played plan script j ≡ Some w
      → EraStaysLocked plan script j w
  from_locked each stays w is =
      let first = subst (IsFirstLocked plan script (played_at plan script) j script.rounds) is
      locked_first in
      let within = first.0 in
      let here : j
      ≡ era_of script w = (each script read.whole w (omega (arith, within))).only j among
      first.1.from first.1.before in
      let locked : IsLocked plan (faulty_at script w) (played_at plan script w) =
      subst (λ (era : ℕ). IsLocked plan (faulty_of_era script era) (played_at plan script w)) here
      first.1.locked in
      stays plan script read j among w first.1.from first.1.before locked

module _ (plays : PlainScriptsArePlayed) (texts : TextsAreWritten) (each : EachIsOfOneEra)
    (runs : ErasAreRuns) (locks : ErasLock) (counts : ErasCount) (stays : ErasStayLocked)
    (explained : ExplainedErasLock) (long : LongErasAreExplained) (found : FoundIsFirst) where
  era_keeps : (plan : Plan) (script : Script) → IsReadFor plan script → (j : ℕ)
      → j ≤ length script.eras → EraKeepsPromise plan script j
  era_keeps plan script read j among = record {
    borne = borne_in plan script read j among;
    run = runs plan script read j among;
    rows = rows_count plan script read j among (first_of_era script j + plan_bound plan)
        (counts plan script read j among);
    locked = locked_first plan script read j among;
    locks = λ reaches. subst (IsUpTo (first_of_era script j + plan_bound plan))
        (same_lock plan script read j among) (locks plan script read j among reaches);
    stays = λ w t is late early.
        (from_locked plan script read j among each stays w is).locked t late early;
    locked_rows = λ w is. rows_count plan script read j among w
        (from_locked plan script read j among each stays w is).counts;
  }

  whichever : (scripted : Result Scripted Refusal) → IfOk scripted IsRead
      → IfOk scripted (λ s. KeepsPromise s.plan s.script)
  whichever (Err refusal) read = tt
  whichever (Ok s) read = record {
    played = plays s.plan s.script read.for;
    written = texts.rows s.plan s.script;
    shown = read.for.whole.formed.shown;
    all = each s.script read.for.whole;
    eras = era_keeps s.plan s.script read.for;
    why = why_is_true each stays explained long found s.plan s.script read.for
        (locked_first s.plan s.script read.for (length s.script.eras) (omega arith));
    base = base_is_said s.plan s.script;
  }

  pub promise_kept : PromiseIsKept
  promise_kept input = whichever (scripted_of input) (scripted_read input)
