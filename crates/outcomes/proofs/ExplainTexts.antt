-- What the word `explain` writes of a plan with levels.
use Rattle.std.proofs.Common.{◌≡◌, ◌≢◌, List, [], ◌∷◌, length, refl}
use Rattle.construction.specs.Plans.{Level, Plan}
use Rattle.adversary_script.specs.Scripts.{Script}
use Rattle.run_explanations.specs.Explanations.{explanation_of}
use Rattle.outcomes.specs.ExplainText.{explanation_lines, lines_over}

pub levelled_is : (levels : List Level) (plan : Plan) (script : Script) → (length levels ≢ 0)
    → lines_over levels plan script ≡ explanation_lines (explanation_of plan script)
levelled_is [] plan script some = absurd (some refl)
levelled_is (level ∷ below) plan script some = refl
