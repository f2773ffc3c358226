use Rattle.std.proofs.Common.{◌≡◌, length}
use Rattle.sweep.specs.Inputs.{is_halving}
use Rattle.sweep.proofs.inputs.is_halving.Given as goal

abbrev pub invariant-loop-rest : goal.invariant-loop-rest
invariant-loop-rest l = is_halving l.rest ≡ is_halving l.input

abbrev pub decreases-loop-rest : goal.decreases-loop-rest
decreases-loop-rest l = length l.rest
