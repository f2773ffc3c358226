use Rattle.std.proofs.Common.{◌≡◌, ◌∙◌, Ok, refl, sym, arith, rules}
use Rattle.std.proofs.KnownBytes.{Consumes-nil}
use Rattle.edge_io.proofs.Writing.{writes_is}
use Rattle.node_stepper.proofs.PacketByPacket.{all_heard}
use Rattle.node_stepper.proofs.Gathered.{first_cell_is, gives_first, gives_more, gives_all}
use Rattle.node_stepper.proofs.Answering.{forgotten, served_none, served_more, served_end}
use Rattle.node_stepper.proofs.Answering.{served_inside, served_stop, served_cut_last}
use Rattle.node_stepper.proofs.Answering.{served_beyond, served_full, served_lost}
use Rattle.node_stepper.proofs.engine.NodeEngine.serve.Goals as goal
use Rattle.node_stepper.specs.Packets.{most_packets}

pub loop-packet-init : goal.loop-packet-init
loop-packet-init g c = record {
  same = refl;
  still = refl;
  met = refl;
  so_far = served_none g.M.Machine.machine _ _ _ _
      (forgotten g.M.Machine.machine _ _ c.forget.ensures)
      (gives_first g.K.Sink.told _ _ _ (first_cell_is g.M.Machine.machine c.args.self.now _ c.forget.ensures));
}

pub returns-in-Ok-Nothing-clause-served : goal.returns-in-Ok-Nothing-clause-served
returns-in-Ok-Nothing-clause-served g c =
    let h = rw c.in-Ok-Nothing.field-0-is at c.in-Ok-Nothing.ensures.packet in
    let ends = rw c.in-Ok-Nothing.field-0-is at c.in-Ok-Nothing.ensures.passes_on in
    let first = writes_is (first_cell_is g.M.Machine.machine c.args.self.now _ c.forget.ensures)
    c.put_cell.ensures in
    let so_far = c.loop-packet.invariant.so_far in
    served_end g.M.Machine.machine _ _ _ _ _ _ _ so_far _ h.2 h.0 h.1 _ _
    (gives_all g.K.Sink.told _ _ _ _ _ _ _ _ _ _ c.new-writer.ensures first so_far.wrote ends
    (search rules))

pub returns-in-Ok-Cut-clause-served : goal.returns-in-Ok-Cut-clause-served
returns-in-Ok-Cut-clause-served g c =
    let h = rw c.in-Ok-Cut.field-0-is at c.in-Ok-Cut.ensures.packet in
    let ends = rw c.in-Ok-Cut.field-0-is at c.in-Ok-Cut.ensures.passes_on in
    let first = writes_is (first_cell_is g.M.Machine.machine c.args.self.now _ c.forget.ensures)
    c.put_cell.ensures in
    let so_far = c.loop-packet.invariant.so_far in
    served_inside g.M.Machine.machine _ _ _ _ _ _ _ so_far _ _ _ c.loop-packet-test.true h.0
    h.1 h.2 c.forget-in-Ok-Cut.ensures _ _
    (gives_all g.K.Sink.told _ _ _ _ _ _ _ _ _ _ c.new-writer.ensures first so_far.wrote ends
    (search rules))

pub returns-in-Err-clause-served : goal.returns-in-Err-clause-served
returns-in-Err-clause-served g c =
    let h = c.in-Err.ensures.packet in
    let first = writes_is (first_cell_is g.M.Machine.machine c.args.self.now _ c.forget.ensures)
    c.put_cell.ensures in
    let so_far = c.loop-packet.invariant.so_far in
    served_stop g.M.Machine.machine _ _ _ _ _ _ _ so_far g.K.Sink.told _ _ _ _ _ _ _ _
    c.in-Err.ensures.passes_on
    (λ r ends. gives_all g.K.Sink.told r _ _ _ _ _ _ _ _ _ c.new-writer.ensures first
    so_far.wrote ends (search rules))
    c.loop-packet-test.true h.0 h.1 c.forget-in-Err.ensures

pub packet-requires : goal.packet-requires
packet-requires g c =
    let h = rw c.in-Ok-Whole.field-0-is at c.in-Ok-Whole.ensures.packet in
    all_heard g.M.Machine.machine _ _ _ h.heard h.size c.in-Ok-Whole.ensures.node

pub loop-packet-preserved : goal.loop-packet-preserved
loop-packet-preserved g c =
    let h = rw c.in-Ok-Whole.field-0-is at c.in-Ok-Whole.ensures.packet in
    let passed = rw c.in-Ok-Whole.field-0-is at c.in-Ok-Whole.ensures.passes_on in
    record {
      same = c.in-Ok-Whole.ensures.same_reference ∙ c.loop-packet.invariant.same;
      still = c.in-Ok-Whole.ensures.cause ∙ c.loop-packet.invariant.still;
      met = rw c.in-Ok-Whole.field-0-is at c.in-Ok-Whole.ensures.met ∙ c.loop-packet.invariant.met;
      so_far = served_more g.M.Machine.machine _ _ _ _ _ _ _ c.loop-packet.invariant.so_far _ _
          c.in-Ok-Whole.ensures.node
          c.loop-packet-test.true h c.packet.ensures _
          (λ text gives. gives_more g.K.Sink.told _ _ text _ _ _ _ passed.0
          c.put_cell-in-loop-packet.ensures gives);
    }

pub returns-in-Err-finish-clause-served : goal.returns-in-Err-finish-clause-served
returns-in-Err-finish-clause-served g c =
    let first = writes_is (first_cell_is g.M.Machine.machine c.args.self.now _ c.forget.ensures)
    c.put_cell.ensures in
    let so_far = c.loop-packet.invariant.so_far in
    served_cut_last g.M.Machine.machine _ _ _ _ _ _ _ so_far (Consumes-nil _) _ _
    (gives_all g.K.Sink.told _ _ _ _ _ _ _ _ _ _ c.new-writer.ensures first so_far.wrote
    c.in-Err-finish.ensures (search rules))

pub returns-in-Ok-None-clause-served : goal.returns-in-Ok-None-clause-served
returns-in-Ok-None-clause-served g c =
    let full : c.loop-packet.packet ≡ most_packets =
    omega (arith, c.loop-packet-test.false, c.loop-packet.auto.packet-end) in
    let h = rw c.in-Ok-None.field-0-is at c.in-Ok-None.ensures.bytes in
    let first = writes_is (first_cell_is g.M.Machine.machine c.args.self.now _ c.forget.ensures)
    c.put_cell.ensures in
    let so_far = c.loop-packet.invariant.so_far in
    served_full g.M.Machine.machine _ _ _ _ _ _ _ so_far full h.1 h.0 _ _
    (gives_all g.K.Sink.told _ _ _ _ _ _ _ _ _ _ c.new-writer.ensures first so_far.wrote
    c.in-Ok.ensures (search rules))

pub returns-in-Ok-Some-clause-served : goal.returns-in-Ok-Some-clause-served
returns-in-Ok-Some-clause-served g c =
    let full : c.loop-packet.packet ≡ most_packets =
    omega (arith, c.loop-packet-test.false, c.loop-packet.auto.packet-end) in
    let h = rw c.in-Ok-Some.field-0-is at c.in-Ok-Some.ensures.bytes in
    let first = writes_is (first_cell_is g.M.Machine.machine c.args.self.now _ c.forget.ensures)
    c.put_cell.ensures in
    let so_far = c.loop-packet.invariant.so_far in
    served_beyond g.M.Machine.machine _ _ _ _ _ _ _ so_far _ full h _ _
    (gives_all g.K.Sink.told _ _ _ _ _ _ _ _ _ _ c.new-writer.ensures first so_far.wrote
    c.in-Ok.ensures (search rules))

pub returns-in-Err-byte-clause-served : goal.returns-in-Err-byte-clause-served
returns-in-Err-byte-clause-served g c =
    let first = writes_is (first_cell_is g.M.Machine.machine c.args.self.now _ c.forget.ensures)
    c.put_cell.ensures in
    let so_far = c.loop-packet.invariant.so_far in
    served_lost g.M.Machine.machine _ _ _ _ _ _ _ so_far c.in-Err-byte.ensures.bytes _ _
    (gives_all g.K.Sink.told _ _ _ _ _ _ _ _ _ _ c.new-writer.ensures first so_far.wrote
    c.in-Ok.ensures (search rules))
