use Rattle.std.proofs.Common.{refl, ap, ◌∙◌}
use Rattle.state_codec.specs.Shapes.{shape_nodes}
use Rattle.outcomes.specs.Layered.{shape_for}
use Rattle.answers.proofs.ReadLayers.{few_registers, shape_for_nodes, part_refused, script_refused}
use Rattle.answers.proofs.ReadLayers.{layered_is}
use Rattle.answers.proofs.layered.read_layered.Goals as goal

pub returns-in-Err : goal.returns-in-Err
returns-in-Err g c =
    let part = g.P.CounterPart in
    rw (c.unread.ensures, c.NAME.ensures)
    (part_refused part.NAME part.said_in part.registers c.args.input.now _ c.in_ok-plan.plan
    c.in_ok-plan.bytes c.in_ok-plan.lines refl c.in_ok-plan.ensures.exact _
    (rw c.of-numbers.ensures at c.in-Err.ensures.exact))

pub shape_for-requires : goal.shape_for-requires
shape_for-requires g c =
    let part = g.P.CounterPart in
    let read = rw c.of-numbers.ensures at c.in-Ok.ensures.exact in
    few_registers part.said_in part.registers part.fits g.met.P.CounterPart.sound _ _ _ _
    read.part _ (c.registers.ensures _ read.said read.fresh)

pub read_script-requires-clause-shape : goal.read_script-requires-clause-shape
read_script-requires-clause-shape g c =
    ap shape_nodes c.in_ok-shape.ensures ∙ shape_for_nodes c.in_ok-plan.plan _

pub returns-in-Err-read_script : goal.returns-in-Err-read_script
returns-in-Err-read_script g c =
    let part = g.P.CounterPart in
    let read = rw c.of-numbers.ensures at c.in-Ok.ensures.exact in
    rw (c.unread-in-Err-read_script.ensures)
    (script_refused part.NAME part.said_in part.registers c.args.input.now _ c.in_ok-plan.plan
    c.in_ok-plan.bytes c.in_ok-plan.lines refl c.in_ok-plan.ensures.exact read.said
    c.in-Ok.read.1 c.in-Ok.read.2 read.part c.in_ok-shape.shape
    (c.in_ok-shape.ensures
    ∙ ap (shape_for c.in_ok-plan.plan) (c.registers.ensures _ read.said read.fresh)) _ refl _
    c.in-Err-read_script.ensures.exact)

pub returns : goal.returns
returns g c =
    let part = g.P.CounterPart in
    let read = rw c.of-numbers.ensures at c.in-Ok.ensures.exact in
    let shape_is = c.in_ok-shape.ensures
    ∙ ap (shape_for c.in_ok-plan.plan) (c.registers.ensures _ read.said read.fresh) in
    record {
      said = read.said;
      is = layered_is part.NAME part.said_in part.registers c.args.input.now _ c.in_ok-plan.plan
          c.in_ok-plan.bytes c.in_ok-plan.lines refl c.in_ok-plan.ensures.exact read.said
          c.in-Ok.read.1 c.in-Ok.read.2 read.part c.in_ok-shape.shape shape_is _ refl
          c.in-Ok-read_script.script c.in-Ok-read_script.ensures.exact;
      made_is = read.fresh;
      shape_is = shape_is;
      right = c.in-Ok-read_script.ensures.borne;
    }
