-- The worked values of attacks, by computation.
use Rattle.std.proofs.Common.{refl}
use Rattle.std.specs.Fmt.{digits}
use Rattle.hex.specs.Hex.{decode_pairs, encode_with}
use Rattle.construction.specs.Widths.{width}
use Rattle.state_codec.specs.Bits.{bits, number_of, bytes_of_bits}
use Rattle.state_codec.specs.Shapes.{moduli_of, registers_bits}
use Rattle.state_codec.specs.Reading.{registers_from}
use Rattle.state_codec.specs.Writing.{bits_of_registers}
use Rattle.adversary_script.specs.ScriptPart.{script_for}
use Rattle.attack.specs.AttackTexts.{spaced, start_text, lie_text}
use Rattle.attack.specs.Changes.{with_start, renamed, varied, changed_by}
use Rattle.attack.specs.Draws.{mixed, drawn, below}
use Rattle.attack.specs.FaultyIds.{chosen, left_over}
use Rattle.attack.specs.Kinds.{kind_lies, fresh}
use Rattle.attack.specs.AttacksWorked.{KindsAreSpelled, MixedIsSpelled, ChangesAreWorked}
use Rattle.attack.specs.AttacksWorked.{AttacksAreWorked}
use Rattle.attack.specs.TriesWorked.{TriesAreWorked}

changes_are_worked : ChangesAreWorked
unfolding mixed drawn below with_start renamed varied changed_by
changes_are_worked = record {
  sixteen = refl;
  key = refl;
  start = refl;
  further = refl;
  no_start = refl;
  faulty = refl;
  more = refl;
  less = refl;
  rounds = refl;
  content = refl;
}

pub tries_are_worked : TriesAreWorked
unfolding mixed drawn below changed_by
tries_are_worked = record {
  first = refl;
  second = refl;
  third = refl;
  other = refl;
  none_yet = refl;
}

mixed_is_spelled : MixedIsSpelled
unfolding
    digits decode_pairs encode_with width bits number_of bytes_of_bits moduli_of registers_bits
    registers_from bits_of_registers script_for spaced start_text lie_text mixed drawn
mixed_is_spelled = record { is = refl; read = refl }

kinds_are_spelled : KindsAreSpelled
unfolding
    digits decode_pairs encode_with width bits number_of bytes_of_bits moduli_of registers_bits
    registers_from bits_of_registers script_for spaced start_text lie_text mixed drawn below chosen
    left_over kind_lies fresh
kinds_are_spelled = record {
  noise = record { is = refl; read = refl };
  frozen = record { is = refl; read = refl };
  split = record { is = refl; read = refl };
  king = record { is = refl; read = refl };
  shadow = record { is = refl; read = refl };
  left = record { is = refl; read = refl };
  right = record { is = refl; read = refl };
}

pub attacks_are_worked : AttacksAreWorked
attacks_are_worked = record {
  kinds = kinds_are_spelled;
  mixed = mixed_is_spelled;
  changes = changes_are_worked;
}
