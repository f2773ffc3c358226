-- What a plan means as one counter: its machine.
use Rattle.std.specs.Prelude.{⊤, ℕ, ◌<◌, List, [], ◌∷◌, length, IfSome}
use Rattle.sync_types.specs.States.{State, register_at}
use Rattle.construction.specs.Plans.{Level, Plan}
use Rattle.construction.specs.Runs.{machine_of}
use Rattle.counter_core.specs.Meanings.{Meaning}

-- the counter of a plan
abbrev pub plan_meaning : Plan → Meaning
plan_meaning plan = machine_of plan

-- each finite value is below its level's modulus
abbrev pub InRange : List Level → State → Type 0
InRange [] state = ⊤
InRange (level ∷ below) state =
    InRange below state × IfSome (register_at (length below) state).a (λ a. a < level.modulus)

-- What the counter asks of a state, whatever node's it is: the number is below the base, and each
-- finite value below its level's modulus. Registers after those of the levels are free, and so are,
-- within these bounds, the fields that a node lacks. Each state of the plan is in range.
pub record IsWithin (base : ℕ) (levels : List Level) (state : State) : Type 0 where
  pub x : state.x < base
  pub values : InRange levels state

abbrev pub IsInRange : Plan → State → Type 0
IsInRange plan = IsWithin plan.base plan.levels
