-- What the word `explain` writes of a plan and a script: the bound, why the last era locks, and the
-- lines of the first locked configurations.
use Rattle.std.specs.Prelude.{ℕ, List, [], ◌∷◌, Option, Some, None, codes, decimal}
use Rattle.std.specs.List.{concat}
use Rattle.construction.specs.Plans.{Level, Plan, plan_bound}
use Rattle.adversary_script.specs.Scripts.{Script}
use Rattle.run_explanations.specs.declared.explanations.Explanation.{Explanation}
use Rattle.run_explanations.specs.Explanations.{explanation_of}
use Rattle.round_runner.specs.Played.{played_at}
use Rattle.run_lines.specs.RunTexts.{bound_line, lock_lines}

-- the window with its leader, and the phase with its king
abbrev pub explanation_lines : Option Explanation → List ℕ
explanation_lines None = codes "explain none\n"
explanation_lines (Some e) =
    concat (codes "window " ∷ decimal e.window ∷ codes " leader " ∷ decimal e.leader
    ∷ codes "\nphase " ∷ decimal e.phase ∷ codes " king " ∷ decimal e.king ∷ codes "\n" ∷ [])

-- a plan without levels has no window
abbrev pub lines_over : List Level → Plan → Script → List ℕ
lines_over [] plan script = codes "explain base\n"
lines_over (level ∷ below) plan script = explanation_lines (explanation_of plan script)

abbrev pub why_lines : Plan → Script → List ℕ
why_lines plan script = lines_over plan.levels plan script

abbrev pub explain_text : Plan → Script → List ℕ
explain_text plan script =
    concat (bound_line (plan_bound plan) ∷ why_lines plan script
    ∷ lock_lines plan script (played_at plan script) ∷ [])
