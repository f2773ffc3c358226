use Rattle.std.proofs.Common.{◌≡◌, ℕ, List, refl, sym, ap, ◌∙◌, subst, arith}
use Rattle.std.specs.List.{flat_map, range_with_len}
use Rattle.construction.specs.Plans.{plan_nodes}
use Rattle.counter_core.specs.declared.overlays.NoOverlay.{NoOverlay}
use Rattle.edge_io.proofs.Writing.{writes_none, writes_next, writes_is}
use Rattle.round_runner.specs.Runners.{Running}
use Rattle.run_checker.specs.Playing.{HasLiar}
use Rattle.run_checker.specs.RunLines.{lie_if}
use Rattle.run_checker.proofs.lie_lines.put_lies_from.Goals as goal

pub loop-v-init : goal.loop-v-init
loop-v-init g c = record { same = refl; wrote = writes_none }

pub loop-v-preserved : goal.loop-v-preserved
loop-v-preserved g c =
    let r = c.args.runner.now in
    let is = ap (λ (x : Running NoOverlay).
    lie_if x.script x.at x.states c.args.u c.loop-v.v) c.loop-v.invariant.same in
    record {
      same = c.put_lie_if.ensures.same ∙ c.loop-v.invariant.same;
      wrote = writes_next (lie_if r.script r.at r.states c.args.u) 0 c.loop-v.v c.loop-v.v
          c.loop-v.invariant.wrote
          (writes_is is c.put_lie_if.ensures.text) (omega arith);
    }

pub returns-clause-text : goal.returns-clause-text
returns-clause-text g c =
    let r = c.args.runner.now in
    let word : ℕ → List ℕ = lie_if r.script r.at r.states c.args.u in
    let end : c.loop-v.v ≡ plan_nodes r.plan =
    omega (arith, c.loop-v-test.false, c.loop-v.auto.v-end, c.nodes-v-end.ensures) in
    writes_is (ap (λ (n : ℕ). flat_map word (range_with_len 0 n)) end) c.loop-v.invariant.wrote

pub put_lie_if-requires-clause-liar : goal.put_lie_if-requires-clause-liar
put_lie_if-requires-clause-liar g c =
    subst (λ (r : Running NoOverlay). HasLiar r c.args.u) (sym c.loop-v.invariant.same) c.requires
