use Rattle.std.proofs.Common.{ap, ◌∙◌}
use Rattle.state_codec.specs.Shapes.{shape_nodes}
use Rattle.halving_texts.proofs.Shaped.{nodes_are}
use Rattle.halving_runs.proofs.Read.{is_scripted, scripted_fails}
use Rattle.halving_runs.proofs.ReadLayers.{plays_own}
use Rattle.halving_runs.proofs.reading.read_scripted.Goals as goal

pub read_behind-requires-clause-nodes : goal.read_behind-requires-clause-nodes
read_behind-requires-clause-nodes c =
    ap shape_nodes c.in_ok-shape.ensures ∙ nodes_are c.in_ok-plan.plan c.facts.ensures

pub returns-in-Ok : goal.returns-in-Ok
returns-in-Ok c = record {
  is = is_scripted c.args.input.now c.in_ok-plan.plan c.in_ok-plan.bytes c.in_ok-plan.lines
      c.in_ok-plan.ensures.exact c.in_ok-shape.shape c.in_ok-shape.ensures c.in-Ok.scripted
      c.in-Ok.ensures;
  plays = plays_own c.in_ok-plan.plan c.in_ok-shape.shape _ _ c.in-Ok.scripted c.in-Ok.ensures
      c.facts.ensures c.in_ok-shape.ensures;
}

pub returns-in-Err : goal.returns-in-Err
returns-in-Err c =
    scripted_fails c.args.input.now c.in_ok-plan.plan c.in_ok-plan.bytes c.in_ok-plan.lines
    c.in_ok-plan.ensures.exact c.in_ok-shape.shape c.in_ok-shape.ensures c.in-Err.error
    c.in-Err.ensures
