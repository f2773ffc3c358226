-- What explanations say of what is played of a script that was read for an accepted plan.
use Rattle.std.specs.Prelude.{ℕ, ◌+◌, ◌≤◌, length}
use Rattle.construction.specs.Plans.{Plan, plan_bound, plan_depth}
use Rattle.construction.specs.Runs.{IsLocked}
use Rattle.plan_numbers.specs.Premises.{IsAccepted}
use Rattle.adversary_script.specs.Scripts.{Script}
use Rattle.adversary_script.specs.Eras.{faulty_of_era}
use Rattle.round_runner.specs.Laws.{IsReadFor}
use Rattle.round_runner.specs.Played.{played_at}
use Rattle.run_explanations.specs.Tops.{top_of}
use Rattle.run_explanations.specs.Explanations.{ExplainsEra, IsFirstOrNone, era_begin}
use Rattle.run_explanations.specs.Explanations.{explanation_of}

-- What is explained is locked when the phase has ended.
abbrev pub ExplainedErasLock : Type 0
ExplainedErasLock = (plan : Plan) (script : Script) → IsReadFor plan script
    → (t b s k : ℕ) → ExplainsEra plan script t b s k
    → IsLocked plan (faulty_of_era script (length script.eras)) (played_at plan script (s + 3))

-- an explanation whose window ends within the bound
pub record IsExplainedByBound (plan : Plan) (script : Script) : Type 0 where
  pub t : ℕ
  pub b : ℕ
  pub s : ℕ
  pub k : ℕ
  pub explains : ExplainsEra plan script t b s k
  pub by_bound : t + (top_of plan).beat ≤ era_begin script + plan_bound plan

-- If the last era goes on to the bound, there is one.
abbrev pub LongErasAreExplained : Type 0
LongErasAreExplained = (plan : Plan) (script : Script) → IsReadFor plan script
    → 1 ≤ plan_depth plan → era_begin script + plan_bound plan ≤ script.rounds
    → IsExplainedByBound plan script

-- The explanation that is found is the first one, and none is found exactly if there is none.
abbrev pub FoundIsFirst : Type 0
FoundIsFirst = (plan : Plan) (script : Script) → IsAccepted plan → 1 ≤ plan_depth plan
    → IsFirstOrNone plan script (explanation_of plan script)
