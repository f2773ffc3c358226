-- The worked values, by computation.
use Rattle.std.proofs.Common.{refl}
use Rattle.std.specs.Fmt.{digits}
use Rattle.construction.specs.Widths.{width}
use Rattle.adversary_script.specs.Lies.{start_of, lie_of}
use Rattle.adversary_script.specs.ScriptPart.{script_for}
use Rattle.sweep.specs.Worked.{SweepsAreSpelled}

pub sweeps_are_spelled : SweepsAreSpelled
unfolding digits width script_for start_of lie_of
sweeps_are_spelled = record {
  key = refl;
  lines = refl;
  plan = refl;
  halving = refl;
  single = refl;
  single_halving = refl;
  silent = refl;
}
