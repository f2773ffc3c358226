-- The worked values of words and lines, by computation.
use Rattle.std.proofs.Common.{refl}
use Rattle.std.specs.Fmt.{digits}
use Rattle.construction.specs.Widths.{width}
use Rattle.choose.specs.ChoicesWorked.{WordsAreWorked, LinesAreWorked, ChoicesAreWorked}

words_are_worked : WordsAreWorked
words_are_worked = record {
  two = refl;
  three = refl;
  last = refl;
  boosting = refl;
  within = refl;
  within_plan = refl;
  many_faults = refl;
  small_modulus = refl;
  great_modulus = refl;
  no_nodes = refl;
  one = refl;
  letters = refl;
}

lines_are_worked : LinesAreWorked
unfolding digits width
lines_are_worked = record { boosting = refl; halving = refl }

pub choices_are_worked : ChoicesAreWorked
choices_are_worked = record { words = words_are_worked; lines = lines_are_worked }
