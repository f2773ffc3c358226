-- The registers of a layer, after those of a plan, as lines `values V` say them.
use Rattle.std.specs.Prelude.{ℕ, ◌+◌, ◌≤◌, ◌==◌, ◌||◌, ◌&&◌, nat_lt, not, Bool, false, List, []}
use Rattle.std.specs.Prelude.{◌∷◌, Option, Some, None, Result, Ok, Err, if◌then◌else◌, codes}
use Rattle.std.specs.Str.{bytes_eq}
use Rattle.texts.specs.Lines.{words_of}
use Rattle.texts.specs.Parts.{is_skipped}
use Rattle.texts.specs.Shapes.{numbers_after}
use Rattle.states.specs.declared.layers.Layer.{Layer}
use Rattle.states.specs.declared.layers.NotValues.{NotValues}

abbrev pub values_tested : Option (List ℕ) → Option ℕ
values_tested (Some (v ∷ [])) = if nat_lt 65536 v || nat_lt v 2 then None else Some v
values_tested other = None

-- how many values a line `values V` says, 2 to 65536
abbrev pub values_said : List ℕ → Option ℕ
values_said line = values_tested (numbers_after (codes "values") 1 (words_of line))

-- a layer with one register more, of so many values: there are at most two, of the same number
abbrev pub with_register_of : Layer → (values : ℕ) → Option Layer
with_register_of layer values =
    if layer.registers == 2 then None
    else if nat_lt 0 layer.registers && not (layer.values == values) then None
    else Some (record { registers = layer.registers + 1; values = values })

abbrev pub with_register_if : Layer → Option ℕ → Option Layer
with_register_if layer None = None
with_register_if layer (Some values) = with_register_of layer values

-- a layer with one register more, as a line says
abbrev pub with_one_more : Layer → List ℕ → Option Layer
with_one_more layer line = with_register_if layer (values_said line)

abbrev pub begins_with : (word : List ℕ) → List (List ℕ) → Bool
begins_with word [] = false
begins_with word (first ∷ words) = bytes_eq first word

-- whether a line begins with the word `values`
abbrev pub is_of_values : List ℕ → Bool
is_of_values line = begins_with (codes "values") (words_of line)

-- no register
abbrev pub no_layer : Layer
no_layer = record { registers = 0; values = 2 }

-- The layer that the lines of values at the beginning of numbered lines say after a layer, or the
-- number of the first of them that says no register.
abbrev pub layer_behind : Layer → List (ℕ × List ℕ) → Result Layer NotValues
layer_behind layer [] = Ok layer
layer_behind layer (item ∷ lines) =
    if is_skipped item.1 then layer_behind layer lines
    else if not (is_of_values item.1) then Ok layer
    else elim (with_one_more layer item.1) [
      | None ↦ Err (record { line = item.0 })
      | Some more ↦ layer_behind more lines
    ]

-- at most two registers, each of 2 to 65536 values
pub record IsLayer (layer : Layer) : Type 0 where
  pub few : layer.registers ≤ 2
  pub least : 2 ≤ layer.values
  pub most : layer.values ≤ 65536
