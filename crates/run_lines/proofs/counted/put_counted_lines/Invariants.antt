use Rattle.std.proofs.Common.{◌≡◌, ◌+◌, ◌-◌, ◌%◌}
use Rattle.std.specs.List.{flat_map, range_with_len}
use Rattle.edge_io.specs.Writing.{Writes}
use Rattle.run_lines.specs.OutputTexts.{counted_line}
use Rattle.run_lines.proofs.counted.put_counted_lines.Given as goal

abbrev pub invariant-loop : goal.invariant-loop
invariant-loop g l = record {
  label : l.number.label ≡ l.fn.number.label;
  number : l.number.value ≡ l.fn.number.value + l.counter;
  output : l.output.value ≡ (l.fn.output.value + l.counter) % l.fn.output.modulus;
  modulus : l.output.modulus ≡ l.fn.output.modulus;
  wrote : Writes g.K.Sink.told (flat_map (λ t. counted_line l.fn.number.label
      (g.L.OutputLines.word_at l.lines)
      (record { nodes = l.nodes; ids = l.faulty.ids }) t
      ((l.fn.output.value + (t - l.fn.number.value)) % l.fn.output.modulus))
      (range_with_len l.fn.number.value l.counter)) l.fn.writer l.writer;
}
