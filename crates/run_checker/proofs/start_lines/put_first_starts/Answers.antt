use Rattle.std.proofs.Common.{◌≡◌, ℕ, ◌<◌, List, refl, sym, ap, ◌∙◌, subst, arith}
use Rattle.std.specs.List.{flat_map, range_with_len}
use Rattle.construction.specs.Plans.{plan_nodes}
use Rattle.counter_core.specs.declared.overlays.NoOverlay.{NoOverlay}
use Rattle.edge_io.proofs.Writing.{writes_none, writes_next, writes_is}
use Rattle.round_runner.specs.Runners.{Running}
use Rattle.run_checker.specs.Playing.{HasNode}
use Rattle.run_checker.specs.RunLines.{first_start}
use Rattle.run_checker.proofs.start_lines.put_first_starts.Goals as goal

pub loop-v-init : goal.loop-v-init
loop-v-init g c = record { same = refl; wrote = writes_none }

pub loop-v-preserved : goal.loop-v-preserved
loop-v-preserved g c =
    let r = c.args.runner.now in
    let is = ap (λ (x : Running NoOverlay).
    first_start x.script x.states c.loop-v.v) c.loop-v.invariant.same in
    record {
      same = c.put_first_start.ensures.same ∙ c.loop-v.invariant.same;
      wrote = writes_next (first_start r.script r.states) 0 c.loop-v.v c.loop-v.v
          c.loop-v.invariant.wrote
          (writes_is is c.put_first_start.ensures.text) (omega arith);
    }

pub returns-clause-text : goal.returns-clause-text
returns-clause-text g c =
    let r = c.args.runner.now in
    let word : ℕ → List ℕ = first_start r.script r.states in
    let end : c.loop-v.v ≡ plan_nodes r.plan =
    omega (arith, c.loop-v-test.false, c.loop-v.auto.v-end, c.nodes-v-end.ensures) in
    writes_is (ap (λ (n : ℕ). flat_map word (range_with_len 0 n)) end) c.loop-v.invariant.wrote

pub put_first_start-requires : goal.put_first_start-requires
put_first_start-requires g c =
    let lt : c.loop-v.v < plan_nodes c.args.runner.now.plan =
    omega (arith, c.loop-v-test.true, c.nodes-v-end.ensures) in
    subst (λ (r : Running NoOverlay). HasNode r c.loop-v.v) (sym c.loop-v.invariant.same)
    (record { node = lt; sized = c.requires.sized })
