use Rattle.std.proofs.Common.{ap, ◌∙◌}
use Rattle.sync_types.specs.declared.answers.Part.TheVariants as part
use Rattle.state_codec.specs.Shapes.{shape_nodes}
use Rattle.halving_texts.proofs.Shaped.{nodes_are}
use Rattle.halving_runs.specs.LayerInputs.{slots_part, slots_shape}
use Rattle.halving_runs.proofs.Read.{part_unread, is_layered, layered_fails}
use Rattle.halving_runs.proofs.ReadLayers.{plays_own}
use Rattle.halving_runs.proofs.reading.read_slotted.Goals as goal

pub read_behind-requires-clause-nodes : goal.read_behind-requires-clause-nodes
read_behind-requires-clause-nodes c =
    ap shape_nodes c.in_ok-shape.ensures ∙ nodes_are c.in_ok-plan.plan c.facts.ensures

pub returns-in-Err : goal.returns-in-Err
returns-in-Err c =
    rw c.unread.ensures (part_unread c.args.input.now c.in_ok-plan.plan c.in_ok-plan.bytes
    c.in_ok-plan.lines c.in_ok-plan.ensures.exact part.Slots slots_part slots_shape c.in-Err.error
    (rw (c.nodes-nodes.ensures, c.modulus-modulus.ensures) at c.in-Err.ensures.exact))

pub returns-in-Ok-read_behind : goal.returns-in-Ok-read_behind
returns-in-Ok-read_behind c = record {
  is = is_layered c.args.input.now c.in_ok-plan.plan c.in_ok-plan.bytes c.in_ok-plan.lines
      c.in_ok-plan.ensures.exact part.Slots slots_part slots_shape c.in-Ok.read.0
      c.in-Ok.read.1 c.in-Ok.read.2
      (rw (c.nodes-nodes.ensures, c.modulus-modulus.ensures) at c.in-Ok.ensures.exact)
      c.in_ok-shape.shape c.in_ok-shape.ensures c.in-Ok-read_behind.scripted
      c.in-Ok-read_behind.ensures;
  plays = plays_own c.in_ok-plan.plan c.in_ok-shape.shape _ _ c.in-Ok-read_behind.scripted
      c.in-Ok-read_behind.ensures
      c.facts.ensures c.in_ok-shape.ensures;
}

pub returns-in-Err-read_behind : goal.returns-in-Err-read_behind
returns-in-Err-read_behind c =
    layered_fails c.args.input.now c.in_ok-plan.plan c.in_ok-plan.bytes c.in_ok-plan.lines
    c.in_ok-plan.ensures.exact part.Slots slots_part slots_shape c.in-Ok.read.0
    c.in-Ok.read.1 c.in-Ok.read.2
    (rw (c.nodes-nodes.ensures, c.modulus-modulus.ensures) at c.in-Ok.ensures.exact)
    c.in_ok-shape.shape c.in_ok-shape.ensures c.in-Err-read_behind.error
    c.in-Err-read_behind.ensures
