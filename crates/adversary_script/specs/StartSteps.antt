-- The line of a node's start, in era 0 or in the era whose line stands before, with its tests in
-- their order.
use Rattle.std.specs.Prelude.{ℕ, List, [], ◌∷◌, ◌++◌, ◌-◌, length, Bool, not, nat_le, nat_lt}
use Rattle.std.specs.Prelude.{Option, Some, None, Result, Ok, Err, slice_set}
use Rattle.std.specs.List.{list_all}
use Rattle.texts.specs.Numbers.{number_of}
use Rattle.sync_types.specs.declared.answers.Rule.{Rule}
use Rattle.sync_types.specs.declared.answers.Rule.TheVariants.{Form, Node, Order, Hex}
use Rattle.sync_types.specs.States.{State}
use Rattle.state_codec.specs.Shapes.{fields_at}
use Rattle.adversary_script.specs.declared.lies.Start.{Start}
use Rattle.adversary_script.specs.Scripts.{Era, Script}
use Rattle.adversary_script.specs.Tested.{tested}
use Rattle.adversary_script.specs.LieSteps.{state_of_digits}
use Rattle.adversary_script.specs.FaultySteps.{last_era}

-- a node is above those that have a start
abbrev pub is_above : List Start → ℕ → Bool
is_above starts v = list_all (λ start. nat_lt start.node v) starts

-- the starts of a further era, or those of era 0 if there is none
abbrev pub starts_in : Script → Option Era → List Start
starts_in s None = s.starts
starts_in s (Some era) = era.starts

-- the starts of the last era
abbrev pub last_starts : Script → List Start
last_starts s = starts_in s (last_era s.eras)

-- one more start in the last further era, or in era 0 if there is none
abbrev pub started : Script → Option Era → Start → Script
started s None start = record s { starts = s.starts ++ start ∷ [] }
started s (Some era) start = record s {
  eras = slice_set s.eras (length s.eras - 1) (record era { starts = era.starts ++ start ∷ [] });
}

abbrev pub with_start : Script → ℕ → Option State → Result Script Rule
with_start s v None = Err Hex
with_start s v (Some state) = Ok (started s (last_era s.eras) (record { node = v; state = state }))

abbrev pub start_tests : Script → ℕ → List (Bool × Rule)
start_tests s v = (nat_le s.nodes v, Node) ∷ (not (is_above (last_starts s) v), Order) ∷ []

abbrev pub start_tested : Script → Option ℕ → List ℕ → Result Script Rule
start_tested s None word = Err Form
start_tested s (Some v) word =
    tested (start_tests s v) (with_start s v (state_of_digits (fields_at s.shape v) word))

-- `start node V H`
abbrev pub start_step : Script → Option (List ℕ × List ℕ) → Result Script Rule
start_step s None = Err Form
start_step s (Some words) = start_tested s (number_of words.0) words.1
