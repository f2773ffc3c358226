use Rattle.std.proofs.Common.{ℕ, refl, set, sym, ap, ◌∙◌, subst, arith}
use Rattle.sync_types.specs.States.{State}
use Rattle.construction.specs.Plans.{plan_depth}
use Rattle.state_codec.specs.Packs.{Pack}
use Rattle.state_codec.specs.Shapes.{Shape, fields_at}
use Rattle.state_codec.specs.Ranges.{InRange}
use Rattle.round_runner.specs.Rooms.{IsMadeFor}
use Rattle.run_checker.proofs.BodyKept.{node_range}
use Rattle.run_checker.proofs.RoundSteps.{pack_deep, written_over, zero_fits, step_fits}
use Rattle.run_checker.proofs.RoundSteps.{next_zero, next_step}
use Rattle.run_checker.proofs.turns.NodeStep.step_one.Goals as goal

pub put-requires-clause-node : goal.put-requires-clause-node
put-requires-clause-node g c =
    omega (arith, c.facts.ensures.size, c.requires.room.is.size, c.args.self.now.node)

pub put-requires-clause-range : goal.put-requires-clause-range
put-requires-clause-range g c =
    let round = c.args.self.now.round.now in
    zero_fits round.tower.now c.tell.ensures c.args.config.now c.requires.room.is.shape
    c.args.self.now.v round.zero.now round.zeros

pub invariant_of-hearer : goal.invariant_of-hearer
invariant_of-hearer g c =
    let round = c.args.self.now.round.now in
    let is = c.requires.room.is in
    let deep = pack_deep round.tower.now c.tell.ensures c.args.config.now is.shape in
    record {
      node = c.args.self.now.node;
      nodes = round.nodes;
      size = is.size;
      takes = record {
        deep = omega (arith, deep);
        counts = λ u lt s range. node_range round.tower.now c.tell.ensures u lt s
            (subst (λ (f : Shape). InRange (fields_at f u) s) is.shape range);
      };
    }

pub step_told-requires-clause-tells : goal.step_told-requires-clause-tells
step_told-requires-clause-tells g c =
    let room = c.requires.room in
    record {
      node = refl;
      tower = refl;
      ids = refl;
      depth = pack_deep c.args.self.now.round.now.tower.now c.tell.ensures c.args.config.now
          room.is.shape;
      said = room.said;
    }

pub step_told-requires-clause-room : goal.step_told-requires-clause-room
step_told-requires-clause-room g c =
    let plan = c.args.self.now.round.now.tower.now in
    subst (λ (d : ℕ). IsMadeFor plan d c.args.room.now)
    (sym (pack_deep plan c.tell.ensures c.args.config.now c.requires.room.is.shape))
    c.requires.room.ready

pub step_told-requires-clause-stands : goal.step_told-requires-clause-stands
step_told-requires-clause-stands g c = c.requires.room.stands

pub put-requires-else-contains-clause-node : goal.put-requires-else-contains-clause-node
put-requires-else-contains-clause-node g c =
    omega (arith, c.facts.ensures.size, c.requires.room.is.size, c.args.self.now.node)

pub put-requires-else-contains-clause-range : goal.put-requires-else-contains-clause-range
put-requires-else-contains-clause-range g c =
    let plan = c.args.self.now.round.now.tower.now in
    step_fits plan c.tell.ensures c.args.config.now c.requires.room.is.shape c.args.self.now.v
    c.args.self.now.node _ c.step_told.new.room.out
    (c.step_told.ensures.out
    ∙ written_over (plan_depth plan) _ c.args.room.now.out c.requires.room.ready.out)

pub returns-then-contains-clause-config : goal.returns-then-contains-clause-config
returns-then-contains-clause-config g c =
    let round = c.args.self.now.round.now in
    c.put.ensures
    ∙ ap (λ (s : State). let p : Pack = record c.args.config.now {
      next = set c.args.config.now.next c.args.self.now.v s;
    } in p)
    (next_zero round.tower.now round.faulty.now.ids c.args.new_faulty.now.ids
    c.args.config.now.current round.told.now.states c.args.self.now.v round.zero.now
    (sym c.contains.ensures ∙ c.if-contains.true) round.zeros)

pub returns-else-contains-clause-config : goal.returns-else-contains-clause-config
returns-else-contains-clause-config g c =
    let round = c.args.self.now.round.now in
    let plan = round.tower.now in
    c.put-else-contains.ensures
    ∙ ap (λ (s : State). let p : Pack = record c.args.config.now {
      next = set c.args.config.now.next c.args.self.now.v s;
    } in p)
    (next_step plan round.faulty.now.ids c.args.new_faulty.now.ids
    c.args.config.now.current round.told.now.states c.args.self.now.v c.step_told.new.room.out
    (sym c.contains.ensures ∙ c.if-contains.false) (c.step_told.ensures.out
    ∙ written_over (plan_depth plan) _ c.args.room.now.out c.requires.room.ready.out))

pub returns-else-contains-clause-room : goal.returns-else-contains-clause-room
returns-else-contains-clause-room g c =
    let plan = c.args.self.now.round.now.tower.now in
    let room = c.requires.room in
    record {
      said = room.said;
      is = room.is;
      ready = subst (λ (d : ℕ). IsMadeFor plan d c.step_told.new.room)
          (pack_deep plan c.tell.ensures c.args.config.now room.is.shape)
          c.step_told.ensures.room;
      stands = c.step_told.ensures.shared ∙ room.stands;
    }
