-- The attack that is found on a plan.
use Rattle.std.specs.Prelude.{◌≡◌, ℕ, List, Option, Some}
use Rattle.attack.specs.Attacks.{Attack}
use Rattle.attack.specs.AttackTexts.{attack_text}
use Rattle.attack.specs.Drawings.{drawing_for, made_by}
use Rattle.attack.specs.Searches.{searched}
use Rattle.attack.specs.SearchLaws.{IsBest}
use Rattle.attack.specs.Lean.{finished}
use Rattle.attack.specs.LeanLaws.{IsAsLate}
use Rattle.attack.specs.declared.kinds.Kind.{Kind}
use Rattle.attack.specs.declared.searching.Best.{Best}
use Rattle.attack.specs.declared.finding.Found.{Found}
use Rattle.attack.specs.declared.plans.AnyPlan.{AnyPlan}
use Rattle.attack.specs.declared.requests.Numbers.{Numbers}
use Rattle.attack.specs.PlanTexts.{machine_in, shape_in, first_line_of}

module _ (plan : AnyPlan) (numbers : Numbers) (kinds : List Kind) where
  -- the attack that is made as the try of that index
  abbrev pub made : (index : ℕ) → (best : Option Attack) → Attack
  made = made_by (drawing_for (machine_in plan) numbers.seed numbers.runs kinds)

  -- the best of all tries
  abbrev pub best_found : Option Best
  best_found = searched (machine_in plan) (shape_in plan) (first_line_of plan) made numbers.runs

  -- what is written in the place of one that was found
  abbrev pub written : Best → Best
  written best = finished (machine_in plan) (shape_in plan) (first_line_of plan) best

  -- There is a best attack, and none of the tries locks later. The text is that of what is made of
  -- it: it is read as a script for the plan's machine with few faulty nodes in each era, and locks
  -- no sooner. What is said of it is its first locked configuration, and the plan's bound.
  pub record Finds (text : List ℕ) (found : Found) : Type 0 where
    pub best : Best
    pub is : best_found ≡ Some best
    pub latest : IsBest (machine_in plan) (shape_in plan) (first_line_of plan) made numbers.runs
        best
    pub late : IsAsLate (machine_in plan) (shape_in plan) (first_line_of plan) best (written best)
    pub said : text ≡ attack_text (machine_in plan) (written best).attack
    pub lock : found.lock ≡ (written best).lock
    pub bound : found.bound ≡ (machine_in plan).bound
