use Rattle.std.proofs.Common.{◌≡◌, ◌<◌, ℕ, List, true, length, refl, sym, ap, ◌∙◌, subst, arith}
use Rattle.std.specs.Prelude.{slice_index}
use Rattle.std.specs.List.{flat_map}
use Rattle.std.proofs.lemmas.List.{take_all}
use Rattle.sync_types.specs.FaultSets.{FaultIds, is_in}
use Rattle.edge_io.proofs.Writing.{writes_none, writes_at, writes_is}
use Rattle.construction.specs.Plans.{plan_nodes}
use Rattle.counter_core.specs.declared.overlays.NoOverlay.{NoOverlay}
use Rattle.adversary_script.specs.Scripts.{Script}
use Rattle.adversary_script.specs.Eras.{faulty_at}
use Rattle.round_runner.specs.Runners.{Running}
use Rattle.machine_runner.proofs.Heard.{is_among}
use Rattle.run_checker.specs.Playing.{HasLiar}
use Rattle.run_checker.specs.RunLines.{lies_from}
use Rattle.run_checker.proofs.Recording.{faulty_ids}
use Rattle.run_checker.proofs.RunnerTexts.{shape_sized}
use Rattle.run_checker.proofs.lie_lines.put_lies.Goals as goal

pub loop-i-init : goal.loop-i-init
loop-i-init g c = record { same = refl; wrote = writes_none }

pub put_lies_from-requires : goal.put_lies_from-requires
put_lies_from-requires g c =
    let r = c.args.runner.now in
    let ids = faulty_at r.script r.at in
    let same = c.loop-i.invariant.same in
    let one = faulty_ids _ _ r.script _ r.at c.faulty_at.ensures c.script.ensures c.at.ensures in
    let two = faulty_ids _ _ r.script _ r.at c.faulty_at-in-loop-i.ensures
    (c.script-in-loop-i.ensures ∙ ap (λ (x : Running NoOverlay). x.script) same)
    (c.at-in-loop-i.ensures ∙ ap (λ (x : Running NoOverlay). x.at) same) in
    let u = c.at-u.ensures.id ∙ ap (λ (l : List ℕ). slice_index l c.loop-i.i) two in
    let within : c.loop-i.i
    < length ids = omega (
      arith,
      c.loop-i-test.true,
      c.len-count.ensures.exact,
      ap (λ (l : List ℕ). length l) one,
    ) in
    let node : c.at-u.result < plan_nodes r.plan = omega (
      arith,
      c.at-u.ensures.node,
      ap (λ (s : FaultIds). s.nodes) c.faulty_at-in-loop-i.ensures,
      ap (λ (s : Script). s.nodes)
          (c.script-in-loop-i.ensures ∙ ap (λ (x : Running NoOverlay). x.script) same),
      c.requires.plays.nodes,
    ) in
    subst (λ (x : Running NoOverlay). HasLiar x c.at-u.result) (sym same) (record {
      round = c.requires.round;
      sender = subst (λ (w : ℕ). is_in ids w ≡ true) (sym u) (is_among ids c.loop-i.i within);
      has = record { node = node; sized = shape_sized r c.requires.plays };
    })

pub loop-i-preserved : goal.loop-i-preserved
loop-i-preserved g c =
    let r = c.args.runner.now in
    let ids = faulty_at r.script r.at in
    let same = c.loop-i.invariant.same in
    let one = faulty_ids _ _ r.script _ r.at c.faulty_at.ensures c.script.ensures c.at.ensures in
    let two = faulty_ids _ _ r.script _ r.at c.faulty_at-in-loop-i.ensures
    (c.script-in-loop-i.ensures ∙ ap (λ (x : Running NoOverlay). x.script) same)
    (c.at-in-loop-i.ensures ∙ ap (λ (x : Running NoOverlay). x.at) same) in
    let u = c.at-u.ensures.id ∙ ap (λ (l : List ℕ). slice_index l c.loop-i.i) two in
    let within : c.loop-i.i
    < length ids = omega (
      arith,
      c.loop-i-test.true,
      c.len-count.ensures.exact,
      ap (λ (l : List ℕ). length l) one,
    ) in
    let line : ℕ → List ℕ = lies_from r.script (plan_nodes r.plan) r.at r.states in
    let is = ap (λ (x : Running NoOverlay).
    lies_from x.script (plan_nodes x.plan) x.at x.states c.at-u.result) same ∙ ap line u in
    record {
      same = c.put_lies_from.ensures.same ∙ same;
      wrote = writes_at line ids c.loop-i.i 0 within c.loop-i.invariant.wrote
          (writes_is is c.put_lies_from.ensures.text);
    }

pub returns-clause-text : goal.returns-clause-text
returns-clause-text g c =
    let r = c.args.runner.now in
    let ids = faulty_at r.script r.at in
    let same = c.loop-i.invariant.same in
    let one = faulty_ids _ _ r.script _ r.at c.faulty_at.ensures c.script.ensures c.at.ensures in
    let all = take_all c.loop-i.i ids
    (omega (
      arith,
      c.loop-i-test.false,
      c.len-count.ensures.exact,
      ap (λ (l : List ℕ). length l) one,
    )) in
    writes_is (ap (flat_map (lies_from r.script (plan_nodes r.plan) r.at r.states)) all)
    c.loop-i.invariant.wrote
