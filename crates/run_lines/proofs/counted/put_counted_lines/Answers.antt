use Rattle.std.proofs.Common.{◌≡◌, ◌+◌, ◌-◌, ◌%◌, ℕ, refl, sym, ap, ◌∙◌, arith}
use Rattle.std.specs.List.{flat_map, range_with_len}
use Rattle.edge_io.specs.Rising.{Labelled}
use Rattle.edge_io.proofs.Writing.{writes_none, writes_next, writes_stopped, writes_is}
use Rattle.run_lines.specs.OutputTexts.{counted_line}
use Rattle.run_lines.proofs.CountedSoFar.{rose, not_risen, line_same}
use Rattle.run_lines.proofs.counted.put_counted_lines.Goals as goal

pub loop-init : goal.loop-init
loop-init g c = record {
  label = refl;
  number = omega arith;
  output = not_risen c.args.output.modulus c.args.output.value c.args.output.below;
  modulus = refl;
  wrote = writes_none;
}

pub returns-then-has_failed : goal.returns-then-has_failed
returns-then-has_failed g c =
    writes_stopped _ c.args.number.value c.loop.counter c.args.count c.loop.invariant.wrote
    (sym c.has_failed.ensures ∙ c.if-has_failed.true)
    (omega (arith, c.loop-test.true, c.loop.auto.counter-end))

pub loop-preserved : goal.loop-preserved
loop-preserved g c =
    let is = c.loop.invariant in
    let line = line_same (g.L.OutputLines.word_at c.args.lines.now)
    (record { nodes = c.args.nodes; ids = c.args.faulty.now.ids }) c.args.number.label
    c.loop.number.label c.args.number.value c.loop.number.value c.args.output.value
    c.loop.output.value c.args.output.modulus c.loop.counter is.label is.number is.output in
    record {
      label = ap (λ (n : Labelled). n.label) c.rise.ensures ∙ is.label;
      number = omega (arith, ap (λ (n : Labelled). n.value) c.rise.ensures, is.number);
      output = rose c.args.output.modulus c.args.output.value c.loop.counter c.loop.output.value _
          is.output (c.rise-in-loop.ensures.value
          ∙ ap (λ (m : ℕ). (c.loop.output.value + 1) % m) is.modulus);
      modulus = c.rise-in-loop.ensures.modulus ∙ is.modulus;
      wrote = writes_next _ c.args.number.value c.loop.counter c.loop.number.value is.wrote
          (writes_is line c.put_counted_line.ensures) (sym is.number);
    }

pub returns : goal.returns
returns g c =
    let all : c.loop.counter ≡ c.args.count =
    omega (arith, c.loop-test.false, c.loop.auto.counter-end) in
    writes_is (ap (λ (n : ℕ). flat_map (λ t. counted_line c.args.number.label
    (g.L.OutputLines.word_at c.args.lines.now)
    (record { nodes = c.args.nodes; ids = c.args.faulty.now.ids }) t
    ((c.args.output.value + (t - c.args.number.value)) % c.args.output.modulus))
    (range_with_len c.args.number.value n)) all) c.loop.invariant.wrote
