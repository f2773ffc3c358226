-- What an input is turned into: a plan stands at its beginning, after it lines of values, which say
-- the registers of a layer, and then lines of states.
use Rattle.std.specs.Prelude.{ℕ, ◌+◌, List, Result, Ok, Err}
use Rattle.texts.specs.Parts.{At, Found}
use Rattle.edge_io.specs.Items.{numbered}
use Rattle.construction.specs.Plans.{Plan}
use Rattle.plan_reader.specs.PlanPart.{plan_of}
use Rattle.state_codec.specs.Shapes.{shape_with}
use Rattle.sync_types.specs.declared.answers.Premise.{Premise}
use Rattle.program_words.specs.Conduct.{and_then}
use Rattle.states.specs.Turned.{states_turned}
use Rattle.states.specs.Values.{layer_behind, no_layer}
use Rattle.states.specs.declared.layers.Layer.{Layer}
use Rattle.states.specs.declared.layers.NotValues.{NotValues}
use Rattle.states.specs.declared.reasons.StateReason.{StateReason}
use Rattle.states.specs.declared.reasons.StateReason.TheVariants as reason

-- a plan and what stands after it, or its refusal
abbrev pub plan_read : Result (Found Plan) (At Premise) → Result (Found Plan) StateReason
plan_read (Ok found) = Ok found
plan_read (Err at) = Err (reason.Plan (record { line = at.line; premise = at.rule }))

-- a layer, or the refusal of a line of values
abbrev pub values_read : Result Layer NotValues → Result Layer StateReason
values_read (Ok layer) = Ok layer
values_read (Err refused) = Err (reason.Values refused)

-- the layer that these numbered lines say
abbrev pub layer_from : (lines : List (ℕ × List ℕ)) → Result Layer StateReason
layer_from lines = values_read (layer_behind no_layer lines)

-- the lines after a plan, with their numbers
abbrev pub lines_after : Found Plan → List (ℕ × List ℕ)
lines_after found = numbered (1 + found.taken) found.behind

-- these lines turned, if the states have the registers of this layer after those of a plan
abbrev pub layered_text : Plan → (lines : List (ℕ × List ℕ)) → Layer
    → Result (List ℕ) StateReason
layered_text plan lines layer =
    states_turned (shape_with plan layer.values layer.registers) layer.registers lines

-- the lines after a plan turned
abbrev pub turned_after : Found Plan → Result (List ℕ) StateReason
turned_after found =
    and_then (layer_from (lines_after found)) (layered_text found.value (lines_after found))

abbrev pub states_text : (input : List ℕ) → Result (List ℕ) StateReason
states_text input = and_then (plan_read (plan_of input)) turned_after
