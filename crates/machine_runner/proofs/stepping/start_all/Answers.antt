use Rattle.std.proofs.Common.{◌+◌, ◌<◌, ◌∙◌, List, length, refl, sym, ap, subst, arith}
use Rattle.sync_types.specs.FaultSets.{FaultIds}
use Rattle.sync_types.specs.States.{State}
use Rattle.state_codec.specs.Packs.{Pack}
use Rattle.adversary_script.specs.Lies.{start_of}
use Rattle.adversary_script.proofs.LiesInRange.{depth_of_node}
use Rattle.machine_runner.proofs.Filled.{FilledBelow, none_filled, one_filled, all_filled}
use Rattle.machine_runner.proofs.stepping.start_all.Goals as goal

pub loop-v-init : goal.loop-v-init
loop-v-init c = record {
  filled = none_filled (start_of c.args.script.now) c.args.script.now.nodes _
      (c.facts.ensures.size ∙ c.requires.config.size);
  deep = c.requires.out;
  noise = c.requires.noise;
  shape = refl;
}

pub loop-v-preserved : goal.loop-v-preserved
loop-v-preserved c =
    let script = c.args.script.now in
    let nodes = ap (λ (s : FaultIds). s.nodes) c.faulty.ensures in
    let lt : c.loop-v.v < script.nodes =
    omega (arith, nodes, c.loop-v-test.true, c.nodes-v-end.ensures) in
    record {
      filled = subst (λ (next : List State).
          FilledBelow (start_of script) script.nodes (c.loop-v.v + 1) next)
          (sym (ap (λ (p : Pack). p.next) c.put.ensures))
          (one_filled (start_of script) script.nodes c.loop-v.v c.loop-v.states.next
          c.start_into.new.out lt c.loop-v.invariant.filled c.start_into.ensures.value);
      deep = depth_of_node script.shape c.loop-v.v _ c.start_into.ensures.range;
      noise = c.start_into.ensures.noise ∙ c.loop-v.invariant.noise;
      shape = ap (λ (p : Pack). p.shape) c.put.ensures ∙ c.loop-v.invariant.shape;
    }

pub returns-clause-shape : goal.returns-clause-shape
returns-clause-shape c = ap (λ (p : Pack). p.shape) c.flip.ensures ∙ c.loop-v.invariant.shape

pub returns-clause-states : goal.returns-clause-states
returns-clause-states c =
    let script = c.args.script.now in
    let nodes = ap (λ (s : FaultIds). s.nodes) c.faulty.ensures in
    ap (λ (p : Pack). p.current) c.flip.ensures
    ∙ all_filled (start_of script) script.nodes c.loop-v.v c.loop-v.states.next
    (omega (arith, nodes, c.loop-v-test.false, c.nodes-v-end.ensures)) c.loop-v.invariant.filled

pub returns-clause-size : goal.returns-clause-size
returns-clause-size c =
    ap (λ (p : Pack). length p.current) c.flip.ensures ∙ c.loop-v.invariant.filled.size
