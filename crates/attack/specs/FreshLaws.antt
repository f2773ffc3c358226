-- Attacks that are drawn afresh are scripts, and so a search finds one.
use Rattle.std.specs.Prelude.{◌≡◌, ℕ, ◌≤◌, List, true, is_some, Ok}
use Rattle.state_codec.specs.Shapes.{Shape}
use Rattle.machines.specs.Machines.{Machine}
use Rattle.machines.specs.Laws.{IsSound}
use Rattle.machine_runner.specs.Laws.{IsShapeOf}
use Rattle.adversary_script.specs.Scripts.{most_rounds}
use Rattle.adversary_script.specs.Writable.{FitsLines}
use Rattle.attack.specs.AttackScripts.{attack_script}
use Rattle.attack.specs.AttackTexts.{attack_text}
use Rattle.attack.specs.Drawings.{drawing_for, made_by}
use Rattle.attack.specs.Found.{best_found}
use Rattle.attack.specs.Kinds.{fresh}
use Rattle.attack.specs.PlanTexts.{IsAcceptedPlan}
use Rattle.attack.specs.Searches.{searched}
use Rattle.attack.specs.Tried.{script_in}
use Rattle.attack.specs.declared.kinds.Kind.{Kind}
use Rattle.attack.specs.declared.plans.AnyPlan.{AnyPlan}
use Rattle.attack.specs.declared.requests.Numbers.{Numbers}

-- The shape is that of a sound machine's states, whose digits fit a line.
pub record IsAttacked (machine : Machine) (shape : Shape) : Type 0 where
  pub shaped : IsShapeOf machine shape
  pub sound : IsSound machine
  pub fits : FitsLines machine.nodes shape

-- Each attack that is drawn afresh for it is read as its script.
abbrev pub FreshIsRead : Type 0
FreshIsRead = (machine : Machine) (shape : Shape) (first_line : ℕ) → IsAttacked machine shape
    → (kind : Kind) (seed rounds : ℕ) → rounds ≤ most_rounds
    → script_in machine shape first_line
    (attack_text machine (fresh kind seed machine.nodes machine.faults rounds))
    ≡ Ok (attack_script shape (fresh kind seed machine.nodes machine.faults rounds))

-- So a search of at least one try finds an attack.
abbrev pub SearchesFind : Type 0
SearchesFind = (machine : Machine) (shape : Shape) (first_line : ℕ) → IsAttacked machine shape
    → (seed runs : ℕ) (kinds : List Kind) → 1 ≤ runs
    → let made = made_by (drawing_for machine seed runs kinds) in
    is_some (searched machine shape first_line made runs) ≡ true

-- So a search of at least one try finds an attack on every accepted plan.
abbrev pub PlansAreAttacked : Type 0
PlansAreAttacked = (plan : AnyPlan) → IsAcceptedPlan plan → (numbers : Numbers)
    (kinds : List Kind) → 1 ≤ numbers.runs → is_some (best_found plan numbers kinds) ≡ true
