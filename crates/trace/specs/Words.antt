-- The words that the lines of a trace have in common.
use Rattle.std.specs.Prelude.{ℕ, zero, suc, List, [], ◌∷◌, Bool, true, false, ◌||◌, Option, Some}
use Rattle.std.specs.Prelude.{None}
use Rattle.std.specs.Prelude.{codes, decimal}
use Rattle.std.specs.List.{concat, list_all, range_with_len}
use Rattle.sync_types.specs.FaultSets.{is_in}
use Rattle.sync_types.specs.States.{State, register_at}
use Rattle.construction.specs.Steps.{state_of}
use Rattle.machine_runner.specs.Locks.{is_locked_at}
use Rattle.trace.specs.declared.headings.Heading.{Heading}

-- a number, or that there is none
abbrev pub number_or_none : Option ℕ → List ℕ
number_or_none (Some n) = decimal n
number_or_none None = codes "none"

-- what stands after the id of a faulty node
abbrev pub faulty_word : Bool → List ℕ
faulty_word true = codes " faulty"
faulty_word false = []

-- the word of a kind of instruction of the phase king
abbrev pub turn_word : (kind : ℕ) → List ℕ
turn_word zero = codes " keep"
turn_word (suc zero) = codes " mark"
turn_word (suc (suc _)) = codes " king"

-- Whether each correct one of so many nodes has this finite value in register l, marked.
abbrev pub all_have : (l first many : ℕ) → (faulty : List ℕ) → List State → Option ℕ → Bool
all_have l first many faulty config None = false
all_have l first many faulty config (Some a) =
    list_all (λ u. is_in faulty u || is_locked_at a (register_at l (state_of config u)))
    (range_with_len first many)

abbrev pub mark_word : (marked all : Bool) → List ℕ
mark_word false all = codes " unmarked"
mark_word true false = codes " marked"
mark_word true true = codes " locked"

-- the line of a node's number, if it has one, and of what it shows
abbrev pub shown_line : Heading → (number : Option ℕ) → (output : ℕ) → List ℕ
shown_line h number output =
    concat (codes "at " ∷ decimal h.at ∷ codes " node " ∷ decimal h.node ∷ faulty_word h.faulty
    ∷ codes " number " ∷ number_or_none number
    ∷ codes " output " ∷ decimal output ∷ codes "\n" ∷ [])
