-- The worked values, by computation.
use Rattle.std.proofs.Common.{refl}
use Rattle.std.specs.Fmt.{digits}
use Rattle.construction.specs.Widths.{width}
use Rattle.state_codec.specs.Shapes.{moduli_of}
use Rattle.adversary_script.specs.Lies.{start_of, lie_of}
use Rattle.adversary_script.specs.ScriptPart.{script_for}
use Rattle.trace.specs.Worked.{TracesAreSpelled}

pub traces_are_spelled : TracesAreSpelled
unfolding digits width script_for start_of lie_of moduli_of
traces_are_spelled = record {
  boosting = λ shape. refl;
  halving = λ shape. refl;
  twelve = refl;
  seven = refl;
  named = refl;
  alone = refl;
}
