use Rattle.std.proofs.Common.{ap, ◌∙◌}
use Rattle.state_codec.specs.Shapes.{shape_nodes}
use Rattle.halving_plan.specs.Plans.{HalvingNumbers}
use Rattle.halving_runs.specs.LayerInputs.{numbers_of}
use Rattle.halving_runs.specs.LayerShapes.{shape_for}
use Rattle.halving_runs.proofs.Read.{part_unread, is_layered, layered_fails}
use Rattle.halving_runs.proofs.LayersRead.{few_nodes, said_fits, said_few, to_play}
use Rattle.halving_runs.proofs.reading.read_layered.Goals as goal

pub returns-in-Err : goal.returns-in-Err
returns-in-Err g c =
    let part = g.P.CounterPart in
    rw (c.unread.ensures, c.NAME.ensures)
    (part_unread c.args.input.now c.in_ok-plan.plan c.in_ok-plan.bytes c.in_ok-plan.lines
    c.in_ok-plan.ensures.exact part.NAME
    (λ (plan : HalvingNumbers). part.said_in (numbers_of plan))
    (λ (plan : HalvingNumbers) said. shape_for plan (part.registers said)) c.in-Err.error
    (rw c.numbers_of-numbers.ensures at c.in-Err.ensures.exact))

pub shape_for-requires : goal.shape_for-requires
shape_for-requires g c =
    let part = g.P.CounterPart in
    let read = rw c.numbers_of-numbers.ensures at c.in-Ok.ensures.exact in
    said_few part.NAME part.said_in part.registers part.fits g.met.P.CounterPart.sound _ _ _ _
    read.part _ (c.registers.ensures _ read.said read.fresh)

pub read_behind-requires-clause-nodes : goal.read_behind-requires-clause-nodes
read_behind-requires-clause-nodes g c =
    let part = g.P.CounterPart in
    let read = rw c.numbers_of-numbers.ensures at c.in-Ok.ensures.exact in
    ap shape_nodes c.in_ok-shape.ensures
    ∙ few_nodes c.in_ok-plan.plan c.facts.ensures c.registers.result
    (said_few part.NAME part.said_in part.registers part.fits g.met.P.CounterPart.sound _ _ _ _
    read.part _ (c.registers.ensures _ read.said read.fresh))

pub returns-in-Ok-read_behind : goal.returns-in-Ok-read_behind
returns-in-Ok-read_behind g c =
    let part = g.P.CounterPart in
    let plan = c.in_ok-plan.plan in
    let read = rw c.numbers_of-numbers.ensures at c.in-Ok.ensures.exact in
    let own = c.in_ok-shape.ensures
    ∙ ap (shape_for plan) (c.registers.ensures _ read.said read.fresh) in
    to_play part.NAME part.said_in part.registers part.fits g.met.P.CounterPart.sound
    part.is_made c.args.input.now plan c.in_ok-shape.shape _ _ c.in-Ok-read_behind.scripted
    c.in-Ok-read_behind.ensures c.facts.ensures read.said
    (is_layered c.args.input.now plan c.in_ok-plan.bytes c.in_ok-plan.lines
    c.in_ok-plan.ensures.exact part.NAME
    (λ (p : HalvingNumbers). part.said_in (numbers_of p))
    (λ (p : HalvingNumbers) said. shape_for p (part.registers said)) read.said c.in-Ok.read.1
    c.in-Ok.read.2 read.part c.in_ok-shape.shape own c.in-Ok-read_behind.scripted
    c.in-Ok-read_behind.ensures)
    (said_fits part.NAME part.said_in part.registers part.fits g.met.P.CounterPart.sound _ _ _ _
    read.part) own c.in-Ok.read.0 read.fresh

pub returns-in-Err-read_behind : goal.returns-in-Err-read_behind
returns-in-Err-read_behind g c =
    let part = g.P.CounterPart in
    let plan = c.in_ok-plan.plan in
    let read = rw c.numbers_of-numbers.ensures at c.in-Ok.ensures.exact in
    let own = c.in_ok-shape.ensures
    ∙ ap (shape_for plan) (c.registers.ensures _ read.said read.fresh) in
    layered_fails c.args.input.now plan c.in_ok-plan.bytes c.in_ok-plan.lines
    c.in_ok-plan.ensures.exact part.NAME
    (λ (p : HalvingNumbers). part.said_in (numbers_of p))
    (λ (p : HalvingNumbers) said. shape_for p (part.registers said)) read.said c.in-Ok.read.1
    c.in-Ok.read.2 read.part c.in_ok-shape.shape own c.in-Err-read_behind.error
    c.in-Err-read_behind.ensures
