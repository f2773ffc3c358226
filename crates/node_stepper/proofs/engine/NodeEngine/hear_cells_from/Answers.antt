use Rattle.std.proofs.Common.{ℕ, ◌≡◌, ◌<◌, ◌∙◌, arith, inr, refl, sym, subst}
use Rattle.node_stepper.proofs.PacketByPacket.{cells_end, cells_more, cells_whole, same_as}
use Rattle.node_stepper.proofs.PacketByPacket.{fed_counter}
use Rattle.node_stepper.proofs.engine.NodeEngine.hear_cells_from.Goals as goal

pub loop-sender-init : goal.loop-sender-init
loop-sender-init g c = record {
  same = refl;
  still = refl;
  met = refl;
  counter = refl;
  some = c.requires.some;
  cells = λ before start h. h;
}

pub hear_cell-requires : goal.hear_cell-requires
hear_cell-requires g c =
    let nodes = c.nodes-nodes.ensures in
    subst (λ t. c.loop-sender.sender < (g.M.Machine.machine t).nodes)
    (sym c.loop-sender.invariant.counter)
    (omega (arith, nodes.value, c.loop-sender-test.true))

pub returns-in-Ok-false-clause-packet : goal.returns-in-Ok-false-clause-packet
returns-in-Ok-false-clause-packet g c before start given =
    let h = rw c.in-Ok-false.field-0-test at c.in-Ok-false.ensures.cell in
    let nodes = c.nodes-nodes.ensures in
    let less : c.loop-sender.sender < (g.M.Machine.machine before.counter).nodes =
    rw (← given.heard.same.counter) (omega (arith, nodes.value, c.loop-sender-test.true)) in
    let cells = c.loop-sender.invariant.cells before start given in (
      cells_end g.M.Machine.machine _ _ _ _ _ _ _ c.loop-sender.invariant.some less cells h.1 h.2,
      h.3,
      same_as _ _ _
          cells.heard.same h.4,
    )

pub returns-in-Err-clause-packet : goal.returns-in-Err-clause-packet
returns-in-Err-clause-packet g c before start given =
    let h = c.in-Err.ensures.cell in
    let nodes = c.nodes-nodes.ensures in
    let less : c.loop-sender.sender < (g.M.Machine.machine before.counter).nodes =
    rw (← given.heard.same.counter) (omega (arith, nodes.value, c.loop-sender-test.true)) in
    let cells = c.loop-sender.invariant.cells before start given in (
      inr (
        _,
        cells_end g.M.Machine.machine _ _ _ _ _ _ _ c.loop-sender.invariant.some less cells
            h.1 h.2,
      ),
      same_as _ _ _
          cells.heard.same h.3,
    )

pub loop-sender-preserved : goal.loop-sender-preserved
loop-sender-preserved g c =
    let h = rw c.in-Ok-true.field-0-test at c.in-Ok-true.ensures.cell in
    let nodes = c.nodes-nodes.ensures in
    record {
      same = c.in-Ok-true.ensures.same_reference ∙ c.loop-sender.invariant.same;
      still = c.in-Ok-true.ensures.cause ∙ c.loop-sender.invariant.still;
      met = rw c.in-Ok-true.field-0-test at c.in-Ok-true.ensures.met
          ∙ c.loop-sender.invariant.met;
      counter = fed_counter g.M.Machine.machine _ _ _ _ _ h ∙ c.loop-sender.invariant.counter;
      some = omega arith;
      cells = λ before start given.
          let less : c.loop-sender.sender < (g.M.Machine.machine before.counter).nodes =
          rw (← given.heard.same.counter) (omega (arith, nodes.value, c.loop-sender-test.true)) in
          cells_more g.M.Machine.machine _ _ _ _ _ _ _ less
          (c.loop-sender.invariant.cells before start given) h;
    }

pub returns-clause-packet : goal.returns-clause-packet
returns-clause-packet g c before start given =
    let nodes = c.nodes-nodes.ensures in
    let end = c.loop-sender.auto.sender-end (omega (arith, nodes.value, c.requires.within)) in
    let all : c.loop-sender.sender ≡ (g.M.Machine.machine c.args.self.now.counter).nodes =
    omega (arith, nodes.value, c.loop-sender-test.false, end) in
    let full : c.loop-sender.sender ≡ (g.M.Machine.machine before.counter).nodes =
    rw (← given.heard.same.counter) all in
    let some : 0 < (g.M.Machine.machine before.counter).nodes =
    omega (arith, full, c.loop-sender.invariant.some) in
    cells_whole g.M.Machine.machine _ _ _ _ _ some full
    (c.loop-sender.invariant.cells before start given)
