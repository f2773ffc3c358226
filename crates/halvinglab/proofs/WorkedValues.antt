-- The worked values, by computation.
use Rattle.std.proofs.Common.{refl}
use Rattle.std.specs.Fmt.{digits}
use Rattle.hex.specs.Hex.{decode_pairs}
use Rattle.construction.specs.Widths.{width}
use Rattle.state_codec.specs.Bits.{bits, number_of, bytes_of_bits}
use Rattle.state_codec.specs.Shapes.{registers_bits}
use Rattle.state_codec.specs.Reading.{registers_from}
use Rattle.state_codec.specs.Writing.{bits_of_registers}
use Rattle.adversary_script.specs.Lies.{start_of, lie_of, fitted_register}
use Rattle.adversary_script.specs.ScriptPart.{script_for}
use Rattle.halvinglab.specs.Worked.{PlansAreSpelled, RunsAreSpelled, LinesAreRefused, WordsAskFor}
use Rattle.halvinglab.specs.Worked.{SlotsAreSpelled, LayersAreSpelled, FourNodesAreSpelled}
use Rattle.halvinglab.specs.Worked.{NodesAreServed, WorkedValues}

plans_are_spelled : PlansAreSpelled
unfolding digits width
plans_are_spelled =
    record { text = refl; read = refl; skipped = refl; alone = refl; table = refl; deep = refl }

runs_are_spelled : RunsAreSpelled
unfolding
    digits width script_for start_of lie_of number_of bits registers_from registers_bits
    decode_pairs
runs_are_spelled = record {
  single = refl;
  script = refl;
  plan = refl;
  eras = refl;
  unlocked = refl;
  locked = refl;
  counted = refl;
  lacking = refl;
  more = refl;
}

slots_are_spelled : SlotsAreSpelled
unfolding
    digits width script_for start_of lie_of number_of bits registers_from registers_bits
    decode_pairs
slots_are_spelled = record {
  single = refl;
  unlocked = refl;
  locked = refl;
  empty = refl;
  form = refl;
  node = refl;
  range = refl;
  overlap = refl;
  script = refl;
  plan = refl;
  lacking = refl;
}

layers_are_spelled : LayersAreSpelled
unfolding
    digits width script_for start_of lie_of number_of bits registers_from registers_bits
    decode_pairs
layers_are_spelled = record {
  decided = refl;
  fired = refl;
  logged = refl;
  early = refl;
  form = refl;
  limit = refl;
  range = refl;
  slot = refl;
  node = refl;
  turn = refl;
  script = refl;
  plan = refl;
  lacking = refl;
}

four_nodes_are_spelled : FourNodesAreSpelled
unfolding
    digits width script_for start_of lie_of number_of bits registers_from registers_bits
    decode_pairs fitted_register
four_nodes_are_spelled = record { decided = refl; fired = refl; logged = refl }

nodes_are_served : NodesAreServed
unfolding
    digits width number_of bits bytes_of_bits registers_from registers_bits bits_of_registers
    decode_pairs
nodes_are_served =
    record { alone = refl; packet = refl; cut = refl; state = refl; plan = refl }

lines_are_refused : LinesAreRefused
unfolding digits width
lines_are_refused = record {
  form = refl;
  older = refl;
  limit = refl;
  modulus = refl;
  quorum = refl;
  single = refl;
  node = refl;
}

words_ask_for : WordsAskFor
words_ask_for = record { single = refl; two = refl; none = refl }

pub worked_values : WorkedValues
worked_values = record {
  plans = plans_are_spelled;
  runs = runs_are_spelled;
  slots = slots_are_spelled;
  layers = layers_are_spelled;
  fours = four_nodes_are_spelled;
  nodes = nodes_are_served;
  refused = lines_are_refused;
  words = words_ask_for;
}
