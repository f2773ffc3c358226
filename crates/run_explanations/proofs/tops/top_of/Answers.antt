use Rattle.std.proofs.Common.{sym, subst, arith}
use Rattle.run_explanations.specs.Tops.{IsTop}
use Rattle.run_explanations.proofs.TopNumbers.{is_top, top_read}
use Rattle.run_explanations.proofs.tops.top_of.Goals as goal

pub returns : goal.returns
returns c =
    top_read c.args.plan.now _ c.block_nodes.result c.block_faults.result c.level-nums.result.now
    c.facts.ensures.accepted c.requires (omega (arith, c.depth.ensures.value))
    c.level-nums.ensures.value c.block_nodes.ensures c.block_faults.ensures

pub invariant_of-result : goal.invariant_of-result
invariant_of-result c = record {
  small = subst IsTop (sym (top_read c.args.plan.now _ c.block_nodes.result c.block_faults.result
      c.level-nums.result.now c.facts.ensures.accepted c.requires
      (omega (arith, c.depth.ensures.value)) c.level-nums.ensures.value c.block_nodes.ensures
      c.block_faults.ensures)) (is_top c.args.plan.now c.facts.ensures.accepted c.requires);
}
