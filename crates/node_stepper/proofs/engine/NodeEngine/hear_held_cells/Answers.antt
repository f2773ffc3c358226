use Rattle.std.proofs.Common.{◌≡◌, ◌<◌, ◌∙◌, arith, refl, subst, sym}
use Rattle.node_stepper.proofs.PacketByPacket.{cells_none, cells_more}
use Rattle.node_stepper.proofs.engine.NodeEngine.hear_held_cells.Goals as goal

pub loop-sender-init : goal.loop-sender-init
loop-sender-init g c =
    let nodes = c.nodes-nodes.ensures in
    record {
      source = refl;
      cells = cells_none g.M.Machine.machine c.args.self.now _ (nodes.states ∙ nodes.value)
          (nodes.marks ∙ nodes.value);
    }

pub hear_held-requires : goal.hear_held-requires
hear_held-requires g c =
    let nodes = c.nodes-nodes.ensures in
    let same = c.loop-sender.invariant.cells.heard.same in
    subst (λ t. c.loop-sender.sender < (g.M.Machine.machine t).nodes) (sym same.counter)
    (omega (arith, nodes.value, c.loop-sender-test.true))

pub loop-sender-preserved : goal.loop-sender-preserved
loop-sender-preserved g c =
    let nodes = c.nodes-nodes.ensures in
    let less : c.loop-sender.sender < (g.M.Machine.machine c.args.self.now.counter).nodes =
    omega (arith, nodes.value, c.loop-sender-test.true) in
    let held = c.if-not-hear_held in
    record {
      source = held.ensures.source ∙ c.loop-sender.invariant.source;
      cells = cells_more g.M.Machine.machine _ _ _ _ _ _ _ less c.loop-sender.invariant.cells
          (held.ensures.cell (search));
    }
