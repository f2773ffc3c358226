use Rattle.std.proofs.Common.{◌≡◌}
use Rattle.states.specs.Values.{IsLayer, no_layer, layer_behind}
use Rattle.states.proofs.layers.read_layer.Given as goal

abbrev pub invariant-loop-number : goal.invariant-loop-number
invariant-loop-number l =
    IsLayer l.layer
    × (layer_behind l.layer l.number-iterator ≡ layer_behind no_layer l.fn.lines)
