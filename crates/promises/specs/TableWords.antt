-- The table of a plan, line by line: which numbers of the plan stand in it.
use Rattle.std.specs.Prelude.{ℕ, List, [], ◌∷◌, ◌++◌, ◌==◌, if◌then◌else◌, codes, decimal}
use Rattle.std.specs.Int.{div_ceil}
use Rattle.construction.specs.Plans.{Level, Plan, leaders_of, beat_of, span_of}
use Rattle.construction.specs.Plans.{plan_nodes, plan_faults, plan_modulus, plan_bound, plan_bits}
use Rattle.construction.specs.Plans.{plan_depth}

-- the plan whose levels are these
abbrev pub plan_up_to : (version base : ℕ) → List Level → Plan
plan_up_to version base levels = record { version = version; base = base; levels = levels }

-- the line of the top level of a plan: its own numbers, and those of the plan
abbrev pub top_words : Plan → Level → List (List ℕ)
top_words plan top =
    codes "level" ∷ decimal (plan_depth plan) ∷ codes "blocks" ∷ decimal top.blocks
    ∷ codes "leaders" ∷ decimal (leaders_of top) ∷ codes "nodes" ∷ decimal (plan_nodes plan)
    ∷ codes "faults" ∷ decimal (plan_faults plan) ∷ codes "beat" ∷ decimal (beat_of top)
    ∷ codes "span" ∷ decimal (span_of top) ∷ codes "modulus" ∷ decimal (plan_modulus plan)
    ∷ codes "bound" ∷ decimal (plan_bound plan) ∷ codes "bits" ∷ decimal (plan_bits plan)
    ∷ (if plan.version == 1 then [] else codes "spare" ∷ decimal top.spares ∷ [])

-- the lines of all levels, the lowest first: each is that of the plan that ends with it
abbrev pub levels_said : (version base : ℕ) → List Level → List (List (List ℕ))
levels_said version base [] = []
levels_said version base (level ∷ below) =
    levels_said version base below
    ++ top_words (plan_up_to version base (level ∷ below)) level ∷ []

-- the line of the whole plan
abbrev pub whole_words : Plan → List (List ℕ)
whole_words plan =
    codes "plan" ∷ codes "nodes" ∷ decimal (plan_nodes plan)
    ∷ codes "faults" ∷ decimal (plan_faults plan) ∷ codes "modulus" ∷ decimal (plan_modulus plan)
    ∷ codes "bound" ∷ decimal (plan_bound plan) ∷ codes "bits" ∷ decimal (plan_bits plan)
    ∷ codes "bytes" ∷ decimal (div_ceil (plan_bits plan) 8) ∷ []

-- all lines
abbrev pub table_words : Plan → List (List (List ℕ))
table_words plan =
    (codes "table" ∷ decimal plan.version ∷ [])
    ∷ (codes "base" ∷ decimal plan.base ∷ [])
    ∷ (levels_said plan.version plan.base plan.levels
    ++ whole_words plan ∷ (codes "end" ∷ []) ∷ [])
