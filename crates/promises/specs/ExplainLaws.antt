-- What the lines of the word `explain` promise.
use Rattle.std.specs.Prelude.{◌≡◌, ℕ, ◌+◌, ◌≤◌, List, [], ◌∷◌, length, Option, Some, None, IfSome}
use Rattle.std.specs.Prelude.{codes, decimal}
use Rattle.construction.specs.Plans.{Plan, plan_bound}
use Rattle.adversary_script.specs.Scripts.{Script}
use Rattle.round_runner.specs.Laws.{IsUpTo, EraStaysLocked}
use Rattle.run_explanations.specs.declared.explanations.Explanation.{Explanation}
use Rattle.run_explanations.specs.Explanations.{IsFirstOrNone, era_begin}
use Rattle.run_explanations.specs.Tops.{top_of}
use Rattle.round_runner.specs.Played.{played_at}
use Rattle.run_lines.specs.RowTexts.{lock_played}
use Rattle.promises.specs.WrittenLines.{text_of_words, around}
use Rattle.outcomes.specs.ExplainText.{explain_text}

-- From the end of the phase on the last era is locked, and counts. The W of the era's line
-- `locked W` comes no later.
pub record LocksByPhase (plan : Plan) (script : Script) (e : Explanation) : Type 0 where
  pub stays : EraStaysLocked plan script (length script.eras) (e.phase + 3)
  pub line : IsUpTo (e.phase + 3) (lock_played plan script (length script.eras))

-- an explanation is said, and its window ends before configuration `end`
pub record IsSaidBefore (plan : Plan) (end : ℕ) (said : Option Explanation) : Type 0 where
  pub explanation : Explanation
  pub is : said ≡ Some explanation
  pub ends : explanation.window + (top_of plan).beat ≤ end

-- the words of the lines that say it
abbrev pub explanation_words : Option Explanation → List (List (List ℕ))
explanation_words None = (codes "explain" ∷ codes "none" ∷ []) ∷ []
explanation_words (Some e) =
    (codes "window" ∷ decimal e.window ∷ codes "leader" ∷ decimal e.leader ∷ [])
    ∷ (codes "phase" ∷ decimal e.phase ∷ codes "king" ∷ decimal e.king ∷ []) ∷ []

-- Of a plan with levels lines say the first explanation why the last era locks, or that there is
-- none, exactly if there is none; the text of `explain` is these, between the bound and the first
-- locked configurations. What is explained locks when its phase has ended. If the era goes on to
-- the bound, which is counted from its first configuration, there is one within it.
pub record WhyIsTrue (plan : Plan) (script : Script) : Type 0 where
  pub said : Option Explanation
  pub written : explain_text plan script
      ≡ text_of_words (around plan script (played_at plan script) (explanation_words said))
  pub first : IsFirstOrNone plan script said
  pub locks : IfSome said (LocksByPhase plan script)
  pub by_bound : era_begin script + plan_bound plan ≤ script.rounds
      → IsSaidBefore plan (era_begin script + plan_bound plan) said

-- Of a plan without levels one line stands in their place.
abbrev pub BaseIsSaid : Plan → Script → Type 0
BaseIsSaid plan script =
    explain_text plan script
    ≡ text_of_words (around plan script (played_at plan script)
    ((codes "explain" ∷ codes "base" ∷ []) ∷ []))
