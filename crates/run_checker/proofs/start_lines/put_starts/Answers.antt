use Rattle.std.proofs.Common.{◌≡◌, ℕ, ◌<◌, List, refl, sym, ap, ◌∙◌, subst, arith}
use Rattle.std.specs.List.{flat_map, range_with_len}
use Rattle.construction.specs.Plans.{plan_nodes}
use Rattle.counter_core.specs.declared.overlays.NoOverlay.{NoOverlay}
use Rattle.edge_io.proofs.Writing.{writes_none, writes_next, writes_is}
use Rattle.round_runner.specs.Runners.{Running}
use Rattle.run_checker.specs.Playing.{HasNode, Begins}
use Rattle.run_checker.specs.RunLines.{start_if}
use Rattle.run_checker.proofs.start_lines.put_starts.Goals as goal

pub loop-v-init : goal.loop-v-init
loop-v-init g c = record { same = refl; wrote = writes_none }

pub loop-v-preserved : goal.loop-v-preserved
loop-v-preserved g c =
    let r = c.args.runner.now in
    let is = ap (λ (x : Running NoOverlay).
    start_if x.plan x.script c.args.t x.states c.loop-v.v) c.loop-v.invariant.same in
    record {
      same = c.put_start_if.ensures.same ∙ c.loop-v.invariant.same;
      wrote = writes_next (start_if r.plan r.script c.args.t r.states) 0 c.loop-v.v c.loop-v.v
          c.loop-v.invariant.wrote
          (writes_is is c.put_start_if.ensures.text) (omega arith);
    }

pub returns-clause-text : goal.returns-clause-text
returns-clause-text g c =
    let r = c.args.runner.now in
    let word : ℕ → List ℕ = start_if r.plan r.script c.args.t r.states in
    let end : c.loop-v.v ≡ plan_nodes r.plan =
    omega (arith, c.loop-v-test.false, c.loop-v.auto.v-end, c.nodes-v-end.ensures) in
    writes_is (ap (λ (n : ℕ). flat_map word (range_with_len 0 n)) end) c.loop-v.invariant.wrote

pub put_start_if-requires-clause-begins : goal.put_start_if-requires-clause-begins
put_start_if-requires-clause-begins g c =
    subst (λ (r : Running NoOverlay). Begins r.script c.args.t c.args.j)
    (sym c.loop-v.invariant.same)
    c.requires.begins

pub put_start_if-requires-clause-node : goal.put_start_if-requires-clause-node
put_start_if-requires-clause-node g c =
    let lt : c.loop-v.v < plan_nodes c.args.runner.now.plan =
    omega (arith, c.loop-v-test.true, c.nodes-v-end.ensures) in
    subst (λ (r : Running NoOverlay). HasNode r c.loop-v.v) (sym c.loop-v.invariant.same)
    (record { node = lt; sized = c.requires.sized })
