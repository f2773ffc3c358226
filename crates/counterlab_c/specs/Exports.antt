-- What the exported functions do: the defined answer is given, or that memory was refused.
use Rattle.std.specs.Prelude.{◌≡◌, ℕ, ◌⊎◌, Result, Ok, Err}
use Rattle.node_calls.specs.declared.errors.CallError.{CallError}
use Rattle.node_calls.specs.declared.errors.CallError.TheVariants as error
use Rattle.counterlab_c.specs.declared.answers.Answer.{Answer}
use Rattle.counterlab_c.specs.Codes.{answer_of}

-- memory was refused, which may happen whatever was asked for
abbrev pub no_memory : Answer
no_memory = answer_of (Err error.NoMemory)

-- a number
abbrev pub GivesNumber : Result ℕ CallError → Answer → Type 0
GivesNumber defined answer = (answer ≡ answer_of defined) ⊎ (answer ≡ no_memory)

-- of a value that is defined, its number is the answer, and what it writes replaces what was there
-- before; an error leaves that as it was
abbrev pub IsGiven : {V M : Type 0} → (number : V → ℕ) → (writes : V → M) → Result V CallError
    → (old new : M) → Answer → Type 0
IsGiven number writes (Ok value) old new answer =
    (answer ≡ answer_of (Ok (number value))) × (new ≡ writes value)
IsGiven number writes (Err e) old new answer = (answer ≡ answer_of (Err e)) × (new ≡ old)

-- if memory was refused, all is as it was
abbrev pub Gives : {V M : Type 0} → (number : V → ℕ) → (writes : V → M) → Result V CallError
    → (old new : M) → Answer → Type 0
Gives number writes defined old new answer =
    IsGiven number writes defined old new answer ⊎ ((answer ≡ no_memory) × (new ≡ old))
