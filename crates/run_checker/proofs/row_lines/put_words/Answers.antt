use Rattle.std.proofs.Common.{◌≡◌, ℕ, List, ap, arith}
use Rattle.std.specs.List.{flat_map, range_with_len}
use Rattle.construction.specs.Plans.{plan_nodes}
use Rattle.edge_io.proofs.Writing.{writes_none, writes_next, writes_is}
use Rattle.run_checker.specs.RunLines.{node_word}
use Rattle.run_checker.proofs.row_lines.put_words.Goals as goal

pub loop-v-init : goal.loop-v-init
loop-v-init g c = writes_none

pub loop-v-preserved : goal.loop-v-preserved
loop-v-preserved g c =
    let r = c.args.runner.now in
    writes_next (node_word r.plan c.args.faulty.now.ids r.states) 0 c.loop-v.v c.loop-v.v
    c.loop-v.invariant c.put_word.ensures (omega arith)

pub returns : goal.returns
returns g c =
    let r = c.args.runner.now in
    let word : ℕ → List ℕ = node_word r.plan c.args.faulty.now.ids r.states in
    let end : c.loop-v.v ≡ plan_nodes r.plan =
    omega (arith, c.loop-v-test.false, c.loop-v.auto.v-end, c.nodes-v-end.ensures) in
    writes_is (ap (λ (n : ℕ). flat_map word (range_with_len 0 n)) end) c.loop-v.invariant
