-- What beginning a plan answers.
use Rattle.std.specs.Prelude.{◌≡◌, ℕ, [], Some, None, Result, Ok, Err}
use Rattle.construction.specs.Plans.{Plan}
use Rattle.plan_numbers.specs.declared.plans.PremiseError.{PremiseError}
use Rattle.plan_numbers.specs.declared.plans.PremiseError.TheVariants.{Refused, NoMemory}
use Rattle.plan_numbers.specs.Premises.{base_premise}

-- the plan without levels if the base fails no premise, else the first that it fails; want of
-- memory comes only if it fails none
abbrev pub Begins : Result Plan PremiseError → (version base : ℕ) → Type 0
Begins (Ok plan) version base =
    (base_premise base ≡ None) × (plan ≡ record { version = version; base = base; levels = [] })
Begins (Err NoMemory) version base = base_premise base ≡ None
Begins (Err (Refused premise)) version base = base_premise base ≡ Some premise
