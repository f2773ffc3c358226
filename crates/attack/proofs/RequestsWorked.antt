-- The worked values of what words ask for, by computation.
use Rattle.std.proofs.Common.{refl}
use Rattle.attack.specs.RequestsWorked.{RequestsAreWorked}

pub requests_are_worked : RequestsAreWorked
requests_are_worked = record {
  two = refl;
  greatest = refl;
  with_kind = refl;
  with_kinds = refl;
  named = refl;
  one = refl;
  long_seed = refl;
  no_runs = refl;
  many_runs = refl;
  letters = refl;
  no_kind = refl;
}
