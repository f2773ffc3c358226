use Rattle.std.proofs.Common.{◌≡◌, ℕ, ap, arith}
use Rattle.std.specs.List.{flat_map, range_with_len}
use Rattle.edge_io.proofs.Writing.{writes_none, writes_next, writes_is}
use Rattle.run_lines.specs.RunTexts.{word_or_star}
use Rattle.run_lines.proofs.counted.put_words_at.Goals as goal

pub loop-v-init : goal.loop-v-init
loop-v-init g c = writes_none

pub loop-v-preserved : goal.loop-v-preserved
loop-v-preserved g c =
    writes_next _ 0 c.loop-v.v c.loop-v.v c.loop-v.invariant c.put_word_at.ensures (omega arith)

pub returns : goal.returns
returns g c =
    let all : c.loop-v.v ≡ c.args.nodes =
    omega (arith, c.loop-v-test.false, c.loop-v.auto.v-end) in
    writes_is (ap (λ (n : ℕ). flat_map (word_or_star
    (g.L.OutputLines.word_at c.args.lines.now c.args.output.now.value) c.args.faulty.now.ids)
    (range_with_len 0 n)) all) c.loop-v.invariant
