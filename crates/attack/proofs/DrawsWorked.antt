-- The worked values of numbers that are drawn, by computation.
use Rattle.std.proofs.Common.{refl}
use Rattle.attack.specs.Draws.{drawn, mixed}
use Rattle.attack.specs.DrawsWorked.{DrawsAreWorked}

pub draws_are_worked : DrawsAreWorked
unfolding drawn mixed
draws_are_worked = record { first = refl; second = refl }
