use Rattle.std.proofs.Common.{◌≡◌, ◌+◌, ◌≤◌, drop}
use Rattle.halving_texts.specs.Reading.{differs_at}
use Rattle.halving_texts.proofs.differences.differs_at.Given as goal

abbrev pub invariant-loop-i : goal.invariant-loop-i
invariant-loop-i l = record {
  few : l.line ≤ l.i + 1;
  same : differs_at l.line (drop l.i l.text) (drop l.i l.other) ≡ differs_at 1 l.text l.other;
}
