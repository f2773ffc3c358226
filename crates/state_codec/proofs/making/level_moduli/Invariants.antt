use Rattle.std.proofs.Common.{◌≡◌, length, take}
use Rattle.construction.specs.Plans.{plan_depth}
use Rattle.state_codec.specs.Shapes.{moduli_of}
use Rattle.state_codec.proofs.making.level_moduli.Given as goal

abbrev pub invariant-loop-i : goal.invariant-loop-i
invariant-loop-i l = record {
  depth : length l.moduli.items ≡ plan_depth l.plan;
  begun : take l.i l.moduli.items ≡ take l.i (moduli_of l.plan.levels);
}
