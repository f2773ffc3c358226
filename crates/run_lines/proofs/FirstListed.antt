-- The first locked number that a runner knows is the place of the first that passes in the list of
-- all numbers.
pub use Rattle.layer_runner.proofs.FirstListed.{first_listed}
