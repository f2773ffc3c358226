use Rattle.std.proofs.Common.{◌≡◌, ◌++◌, take, replicate}
use Rattle.halving_runs.proofs.layer_shapes.moduli_with.Given as goal

abbrev pub invariant-loop-i : goal.invariant-loop-i
invariant-loop-i l = l.moduli.items ≡ take l.i l.own.moduli

abbrev pub invariant-loop : goal.invariant-loop
invariant-loop l = l.moduli.items ≡ l.initial.moduli.items ++ replicate l.counter l.values
