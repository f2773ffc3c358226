-- What is played of a plan with a layer is a run.
pub use Rattle.layer_laws.proofs.CounterEras.{placed}
pub use Rattle.layer_laws.proofs.PlanCounters.{eras_are_runs}
