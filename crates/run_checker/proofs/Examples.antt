-- Worked certificates: by computation, as text, as value, and as what they come to.
use Rattle.std.proofs.Common.{◌≡◌, ℕ, List, [], ◌∷◌, Option, Some, None, Ok, Err, codes, refl}
use Rattle.construction.specs.Widths.{width}
use Rattle.state_codec.specs.Bits.{bits, number_of, bytes_of_bits}
use Rattle.state_codec.specs.Shapes.{moduli_of, registers_bits, shape_of}
use Rattle.state_codec.specs.Reading.{registers_from}
use Rattle.hex.specs.Hex.{decode_pairs}
use Rattle.std.specs.Fmt.{digits}
use Rattle.run_checker.specs.declared.Verdict.TheVariants as verdict
use Rattle.run_checker.specs.Certificates.{Put, Turn, Certificate, certificate_text}
use Rattle.run_checker.specs.Stated.{verdict_of}
use Rattle.run_checker.specs.Recorded.{certificate_of}
use Rattle.std.proofs.Common.{replicate}
use Rattle.construction.specs.Plans.{Plan}
use Rattle.adversary_script.specs.declared.lies.CommonStart.TheVariants as common
use Rattle.adversary_script.specs.Scripts.{Script}
use Rattle.adversary_script.specs.Lies.{start_of, lie_of}
use Rattle.hex.specs.Hex.{encode_with}
use Rattle.state_codec.specs.Writing.{bits_of_registers}
use Rattle.run_checker.specs.Checking.{checked}

true_three : checked (codes "run 1\nbase 5\nfaulty\nstart 0 80\nrow 0 4\nrow 1 0\nrow 2 1\nend\n") ≡ Ok (verdict.True 3 (Some 0))
unfolding width moduli_of registers_bits registers_from number_of decode_pairs bits
true_three = refl

false_one : checked (codes "run 1\nbase 5\nfaulty\nstart 0 80\nrow 0 4\nrow 1 3\nrow 2 1\nend\n") ≡ Ok (verdict.False 1)
unfolding width moduli_of registers_bits registers_from number_of decode_pairs bits
false_one = refl

line_seven : checked (codes "run 1\nbase 5\nfaulty\nstart 0 80\nrow 0 4\nrow 1 0\nrow 3 1\nend\n") ≡ Err 7
unfolding width moduli_of registers_bits registers_from number_of decode_pairs bits
line_seven = refl

no_end : checked (codes "run 1\nbase 5\nfaulty\nstart 0 80\nrow 0 4\nrow 1 0\nrow 2 1\n") ≡ Err 8
unfolding width moduli_of registers_bits registers_from number_of decode_pairs bits
no_end = refl

open_end : checked (codes "run 1\nbase 5\nfaulty\nstart 0 80\nrow 0 4\nrow 1 0\nrow 2 1\nend") ≡ Err 8
unfolding width moduli_of registers_bits registers_from number_of decode_pairs bits
open_end = refl

two_eras : checked (codes "run 2\nbase 5\nfaulty\nstart 0 00\nrow 0 0\nrow 1 1\nera 2\nstart 0 80\nrow 2 4\nrow 3 0\nend\n") ≡ Ok (verdict.True 4 (Some 2))
unfolding width moduli_of registers_bits registers_from number_of decode_pairs bits
two_eras = refl

no_eras_in_one : checked (codes "run 1\nbase 5\nfaulty\nstart 0 00\nrow 0 0\nrow 1 1\nera 2\nstart 0 80\nrow 2 4\nrow 3 0\nend\n") ≡ Err 7
unfolding width moduli_of registers_bits registers_from number_of decode_pairs bits
no_eras_in_one = refl

-- the same as values
abbrev put : ℕ → List ℕ → Put
put v digits = record { node = v; digits = digits }

abbrev quiet : List (Option ℕ) → Turn
quiet row = record { lies = []; era = None; row = row }

abbrev hit : Certificate
hit = record {
  version = 2;
  plan = record { version = 1; base = 5; levels = [] };
  faulty = [];
  starts = put 0 (codes "00") ∷ [];
  row = Some 0 ∷ [];
  turns = quiet (Some 1 ∷ []) ∷ record {
    lies = [];
    era = Some (record { faulty = []; starts = put 0 (codes "80") ∷ [] });
    row = Some 4 ∷ [];
  } ∷ quiet (Some 0 ∷ []) ∷ [];
}

hit_text : certificate_text hit ≡ codes "run 2\nbase 5\nfaulty\nstart 0 00\nrow 0 0\nrow 1 1\nera 2\nstart 0 80\nrow 2 4\nrow 3 0\nend\n"
unfolding digits
hit_text = refl

hit_verdict : verdict_of hit ≡ verdict.True 4 (Some 2)
unfolding width moduli_of registers_bits registers_from number_of decode_pairs bits
hit_verdict = refl

-- a plan of four nodes, one faulty, which tells each correct node a state in each round
three_lies : checked (codes "run 1\nbase 2304\nlevel 4 1 10\nfaulty 3\nstart 0 000000\nstart 1 000000\nstart 2 000000\nrow 0 0 0 0 *\nlie 3 0 000700\nlie 3 1 000700\nlie 3 2 000700\nrow 1 1 1 1 *\nlie 3 0 000700\nlie 3 1 000700\nlie 3 2 000700\nrow 2 2 2 2 *\nend\n") ≡ Ok (verdict.True 3 (Some 2))
unfolding width moduli_of registers_bits registers_from number_of decode_pairs bits
three_lies = refl

-- without its second lie it is refused at the line that then stands in its place
lie_left_out : checked (codes "run 1\nbase 2304\nlevel 4 1 10\nfaulty 3\nstart 0 000000\nstart 1 000000\nstart 2 000000\nrow 0 0 0 0 *\nlie 3 0 000700\nlie 3 2 000700\nrow 1 1 1 1 *\nend\n") ≡ Err 10
unfolding width moduli_of registers_bits registers_from number_of decode_pairs bits
lie_left_out = refl

-- ---- what is recorded of a script

abbrev one_node : Plan
one_node = record { version = 1; base = 5; levels = [] }

abbrev hit_once : Script
hit_once = record {
  version = 2;
  nodes = 1;
  shape = shape_of one_node;
  faulty = [];
  key = replicate 32 0;
  common = common.Zero;
  starts = [];
  eras = record {
    first = 2;
    faulty = [];
    starts = record { node = 0; state = record { x = 4; registers = [] } } ∷ [];
  } ∷ [];
  groups = [];
  lies = [];
  rounds = 3;
  first = 0;
  last = 0;
}

recorded : certificate_text (certificate_of one_node hit_once) ≡ codes "run 2\nbase 5\nfaulty\nstart 0 00\nrow 0 0\nrow 1 1\nera 2\nstart 0 80\nrow 2 4\nrow 3 0\nend\n"
unfolding digits width moduli_of registers_bits bits encode_with bits_of_registers bytes_of_bits
    start_of lie_of number_of
recorded = refl

-- ---- spares: a node's digits are of its own length, and version 3 says the spares of a level

one_spare : checked (codes "run 3\nbase 576\nlevel 3 1 10 spare 1\nfaulty\nstart 0 0000\nstart 1 0000\nstart 2 0000\nstart 3 70\nrow 0 0 0 0 7\nrow 1 1 1 1 0\nrow 2 2 2 2 2\nrow 3 3 3 3 3\nend\n") ≡ Ok (verdict.True 4 (Some 3))
unfolding width moduli_of registers_bits registers_from number_of decode_pairs bits
one_spare = refl

no_spares_in_two : checked (codes "run 2\nbase 576\nlevel 3 1 10 spare 1\nfaulty\n") ≡ Err 3
unfolding width moduli_of registers_bits registers_from number_of decode_pairs bits
no_spares_in_two = refl

other_length : checked (codes "run 3\nbase 576\nlevel 3 1 10 spare 1\nfaulty\nstart 0 00\n") ≡ Err 5
unfolding width moduli_of registers_bits registers_from number_of decode_pairs bits
other_length = refl
