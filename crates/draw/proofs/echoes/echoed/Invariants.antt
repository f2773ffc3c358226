use Rattle.std.proofs.Common.{◌≡◌, ◌≤◌, length, take}
use Rattle.std.specs.List.{filter}
use Rattle.draw.specs.Echoes.{is_printable}
use Rattle.draw.proofs.echoes.echoed.Given as goal

abbrev pub invariant-loop-byte : goal.invariant-loop-byte
invariant-loop-byte l = record {
  said : l.said.items ≡ filter is_printable (take l.byte-index l.bytes);
  few : length l.said.items ≤ 200;
}
