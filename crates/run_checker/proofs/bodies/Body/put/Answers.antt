use Rattle.std.proofs.Common.{◌<◌, length, sym, ap, ◌∙◌, subst, arith}
use Rattle.std.proofs.lemmas.List.{length-set}
use Rattle.construction.specs.Plans.{plan_nodes}
use Rattle.state_codec.specs.Packs.{Pack}
use Rattle.state_codec.specs.Shapes.{Shape, shape_of, fields_at}
use Rattle.state_codec.specs.Ranges.{InRange}
use Rattle.plan_laws.proofs.PlanCounter.{plan_sizes}
use Rattle.run_checker.specs.Bodies.{BodySeen}
use Rattle.run_checker.proofs.BodyKept.{shape_has_nodes, shape_has_depth, node_deep}
use Rattle.run_checker.proofs.bodies.Body.put.Goals as goal

pub read_hex-requires-clause-node : goal.read_hex-requires-clause-node
read_hex-requires-clause-node c =
    let nodes = ap (λ (b : BodySeen). plan_nodes b.known.plan) c.self.view_is in
    let sized = shape_has_nodes c.self.inside.tower c.shape.result.now
    (c.shape.ensures ∙ c.self.invariant.shape) in
    omega (arith, c.requires, nodes, sized)

pub read_hex-requires-clause-depth : goal.read_hex-requires-clause-depth
read_hex-requires-clause-depth c =
    c.self.invariant.room.out
    ∙ sym (shape_has_depth c.self.inside.tower c.shape.result.now
    (c.shape.ensures ∙ c.self.invariant.shape))

pub set-requires-clause-node : goal.set-requires-clause-node
set-requires-clause-node c =
    let nodes = ap (λ (b : BodySeen). plan_nodes b.known.plan) c.self.view_is in
    omega (arith, c.requires, nodes, c.self.invariant.size)

pub set-requires-clause-range : goal.set-requires-clause-range
set-requires-clause-range c =
    subst (λ (f : Shape). InRange (fields_at f c.args.v) c.read_hex.new.out) c.shape.ensures
    c.in-Ok.ensures.range

pub overflow_add-self : goal.overflow_add-self
overflow_add-self c =
    let nodes = ap (λ (b : BodySeen). plan_nodes b.known.plan) c.self.view_is in
    let most = (plan_sizes c.self.inside.tower c.tell.ensures).most in
    omega (arith, c.requires, nodes, most)

pub invariant_of-self : goal.invariant_of-self
invariant_of-self c =
    let nodes = ap (λ (b : BodySeen). plan_nodes b.known.plan) c.self.view_is in
    let lt : c.args.v < plan_nodes c.self.inside.tower = omega (arith, c.requires, nodes) in
    let range : InRange (fields_at (shape_of c.self.inside.tower) c.args.v) c.read_hex.new.out =
    subst (λ (f : Shape). InRange (fields_at f c.args.v) c.read_hex.new.out)
    (c.shape.ensures ∙ c.self.invariant.shape) c.in-Ok.ensures.range in
    let i = c.self.invariant in
    record {
      shape = ap (λ (p : Pack). p.shape) c.set.ensures ∙ i.shape;
      faulty = i.faulty;
      unknown = i.unknown;
      size = ap (λ (p : Pack). length p.current) c.set.ensures
          ∙ length-set c.self.inside.config.current c.args.v c.read_hex.new.out ∙ i.size;
      pairs = i.pairs;
      senders = i.senders;
      kept = i.kept;
      told = i.told;
      most = i.most;
      zero = i.zero;
      room = record {
        lies = i.room.lies;
        shared = i.room.shared;
        out = node_deep c.self.inside.tower c.tell.ensures c.args.v lt c.read_hex.new.out range;
      };
      sets = i.sets;
      eras = i.eras;
      from = omega (arith, lt);
      at = i.at;
    }
