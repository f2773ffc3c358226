-- What the word `explain` writes is true.
use Rattle.std.proofs.Common.{◌≡◌, ℕ, ◌+◌, ◌<◌, ◌≤◌, inl, inr, Bool, List, [], ◌∷◌, length, Option}
use Rattle.std.proofs.Common.{◌++◌, Some, None, IfSome, if◌then◌else◌, codes, decimal, refl, sym}
use Rattle.std.proofs.Common.{ap, ◌∙◌, append_assoc, subst, arith}
use Rattle.std.proofs.lemmas.Bool.{cases_lt, le-ltb}
use Rattle.sync_types.specs.States.{State}
use Rattle.construction.specs.Plans.{Level, Plan, plan_bound, plan_depth}
use Rattle.construction.specs.Runs.{IsLocked}
use Rattle.adversary_script.specs.Scripts.{Script}
use Rattle.adversary_script.specs.Eras.{era_of, first_of_era, end_of_era, faulty_of_era}
use Rattle.round_runner.specs.Laws.{IsUpTo, IsReadFor, EraStaysLocked, EachIsOfOneEra}
use Rattle.round_runner.specs.Laws.{ErasStayLocked}
use Rattle.round_runner.specs.Locks.{IsFirstLocked}
use Rattle.round_runner.specs.Played.{played_at}
use Rattle.run_explanations.specs.declared.explanations.Explanation.{Explanation}
use Rattle.run_explanations.specs.Explanations.{ExplainsIn, ExplainsEra, IsFirstOrNone, era_begin}
use Rattle.run_explanations.specs.Explanations.{explanation_of}
use Rattle.run_explanations.specs.Laws.{ExplainedErasLock, IsExplainedByBound, LongErasAreExplained}
use Rattle.run_explanations.specs.Laws.{FoundIsFirst}
use Rattle.promises.specs.WrittenLines.{text_of_words, around}
use Rattle.promises.proofs.WrittenLines.{all_lines}
use Rattle.outcomes.specs.ExplainText.{explanation_lines, lines_over, why_lines, explain_text}
use Rattle.promises.specs.ExplainLaws.{explanation_words, LocksByPhase, IsSaidBefore, WhyIsTrue}
use Rattle.promises.specs.ExplainLaws.{BaseIsSaid}
use Rattle.run_lines.specs.RowTexts.{lock_played}
use Rattle.outcomes.proofs.ExplainTexts.{levelled_is}

-- ---- the words of the lines

-- two numbers and a word between them, to the end of a line
line_part : (first between second rest : List ℕ)
    → first ++ (between ++ (second ++ 10 ∷ rest))
    ≡ ((first ++ (between ++ second)) ++ 10 ∷ []) ++ rest
line_part first between second rest =
    sym (append_assoc (first ++ (between ++ second)) (10 ∷ []) rest
    ∙ append_assoc first (between ++ second) (10 ∷ rest)
    ∙ ap (λ behind. first ++ behind) (append_assoc between second (10 ∷ rest)))

why_words : (said : Option Explanation)
    → explanation_lines said ≡ text_of_words (explanation_words said)
why_words None = refl
why_words (Some e) =
    let phase : List ℕ =
    codes "phase " ++ (decimal e.phase ++ (codes " king " ++ (decimal e.king ++ 10 ∷ []))) in
    ap (λ rest. codes "window " ++ rest)
    (line_part (decimal e.window) (codes " leader ") (decimal e.leader) phase
    ∙ ap (λ rest. ((decimal e.window ++ (codes " leader " ++ decimal e.leader)) ++ 10 ∷ [])
    ++ (codes "phase " ++ rest))
    (line_part (decimal e.phase) (codes " king ") (decimal e.king) []))

explain_is : (plan : Plan) (script : Script) (said : Option Explanation)
    → why_lines plan script ≡ explanation_lines said
    → explain_text plan script
    ≡ text_of_words (around plan script (played_at plan script) (explanation_words said))
explain_is plan script said is =
    all_lines plan script (played_at plan script) (why_lines plan script) (explanation_words said)
    (is ∙ why_words said)

-- of a plan without levels
base_words : (levels : List Level) (plan : Plan) (script : Script) → length levels ≡ 0
    → lines_over levels plan script
    ≡ text_of_words ((codes "explain" ∷ codes "base" ∷ []) ∷ [])
base_words [] plan script none = refl
base_words (level ∷ below) plan script none = absurd (omega (arith, none))

pub base_is_said : (plan : Plan) (script : Script) → plan_depth plan ≡ 0 → BaseIsSaid plan script
base_is_said plan script none =
    all_lines plan script (played_at plan script) (why_lines plan script)
    ((codes "explain" ∷ codes "base" ∷ []) ∷ []) (base_words plan.levels plan script none)

-- a phase begins in its window, and ends by the last configuration
within_in : (levels : List Level) (script : Script) (config_at : ℕ → List State) (t b s k : ℕ)
    → ExplainsIn levels script config_at t b s k → (t ≤ s) × (s + 3 ≤ script.rounds)
within_in [] script config_at t b s k why = absurd why
within_in (level ∷ below) script config_at t b s k why = (why.begins, why.within)

module _ (plan : Plan) (script : Script) (read : IsReadFor plan script) where
  abbrev last : ℕ
  last = length script.eras

  -- the last era ends after the last configuration
  end_is : end_of_era script last ≡ script.rounds + 1
  end_is = ap (λ (b : Bool). if b then first_of_era script (last + 1) else script.rounds + 1)
      (le-ltb last last (omega arith))

  -- the configuration in which the phase has ended
  module _ (t b s k : ℕ) (why : ExplainsEra plan script t b s k) where
    within : (t ≤ s) × (s + 3 ≤ script.rounds)
    within = within_in plan.levels script (played_at plan script) t b s k why.explains

    from : era_begin script ≤ s + 3
    from = let begins = why.from in let phase = within.0 in omega (arith, begins, phase)

    before : s + 3 < end_of_era script last
    before = let ends = within.1 in omega (arith, ends, end_is)

    module _ (locks : ExplainedErasLock) where
      locked : IsLocked plan (faulty_of_era script last) (played_at plan script (s + 3))
      locked = locks plan script read t b s k why

      stays_locked : EachIsOfOneEra → ErasStayLocked → EraStaysLocked plan script last (s + 3)
      stays_locked each stays =
          let here : last ≡ era_of script (s + 3) =
          (each script read.whole (s + 3) within.1).only last (omega arith) from before in
          stays plan script read last (omega arith) (s + 3) from before
          (subst (λ (j : ℕ). IsLocked plan (faulty_of_era script j) (played_at plan script (s + 3)))
          here locked)

      line_is : (known : Option ℕ)
          → IsFirstLocked plan script (played_at plan script) last script.rounds known
          → IsUpTo (s + 3) known
      line_is None none =
          let ends = within.1 in absurd (none (s + 3) from before (omega (arith, ends)) locked)
      line_is (Some w) first = record {
        number = w;
        is = refl;
        most = elim (cases_lt (s + 3) w) [
          | inl lt ↦ absurd (first.1.first (s + 3) from before lt locked)
          | inr le ↦ omega (arith, le)
        ];
      }

  -- what is said locks
  said_locks : EachIsOfOneEra → ErasStayLocked → ExplainedErasLock
      → IsFirstLocked plan script (played_at plan script) last script.rounds
      (lock_played plan script last)
      → (said : Option Explanation) → IsFirstOrNone plan script said
      → IfSome said (LocksByPhase plan script)
  said_locks each stays locks known None none = tt
  said_locks each stays locks known (Some e) first = record {
    stays = stays_locked e.window e.leader e.phase e.king first.explains locks each stays;
    line = line_is e.window e.leader e.phase e.king first.explains locks
        (lock_played plan script last) known;
  }

-- the first one ends no later than any other
said_before : (plan : Plan) (script : Script) (said : Option Explanation)
    → IsFirstOrNone plan script said → IsExplainedByBound plan script
    → IsSaidBefore plan (era_begin script + plan_bound plan) said
said_before plan script None none other =
    absurd (none other.t other.b other.s other.k other.explains)
said_before plan script (Some e) first other =
    let early = (first.first other.t other.b other.s other.k other.explains).0 in
    let by_bound = other.by_bound in
    record { explanation = e; is = refl; ends = omega (arith, early, by_bound) }

pub why_is_true : EachIsOfOneEra → ErasStayLocked → ExplainedErasLock → LongErasAreExplained
    → FoundIsFirst → (plan : Plan) (script : Script) → IsReadFor plan script
    → IsFirstLocked plan script (played_at plan script) (length script.eras) script.rounds
    (lock_played plan script (length script.eras))
    → 1 ≤ plan_depth plan → WhyIsTrue plan script
why_is_true each stays locks long found plan script read known some =
    let first = found plan script read.accepted some in
    let lines =
    levelled_is plan.levels plan script (λ none. absurd (omega (arith, some, none))) in
    record {
      said = explanation_of plan script;
      written = explain_is plan script (explanation_of plan script) lines;
      first = first;
      locks = said_locks plan script read each stays locks known (explanation_of plan script) first;
      by_bound = λ reaches. said_before plan script (explanation_of plan script) first
          (long plan script read some reaches);
    }
