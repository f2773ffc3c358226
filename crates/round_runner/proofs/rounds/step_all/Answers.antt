use Rattle.std.proofs.Common.{◌≡◌, ◌+◌, ◌*◌, ◌<◌, ℕ, length, List, All, refl, sym, ap, ◌∙◌, subst}
use Rattle.std.proofs.Common.{arith}
use Rattle.std.specs.Prelude.{unwrap_or}
use Rattle.std.proofs.lemmas.Bool.{lt-ltb}
use Rattle.std.proofs.lemmas.List.{with_items_is}
use Rattle.sync_types.specs.States.{State}
use Rattle.state_codec.specs.Packs.{Pack}
use Rattle.round_runner.proofs.SetOn.{gathered_on}
use Rattle.layer_laws.proofs.Stepped.{one_stepped, all_states, all_kept}
use Rattle.sync_types.specs.FaultSets.{FaultIds}
use Rattle.construction.specs.Plans.{plan_nodes, plan_depth, plan_faults}
use Rattle.construction.specs.Steps.{state_of}
use Rattle.plan_laws.specs.PlanMeaning.{plan_meaning, IsInRange}
use Rattle.state_codec.specs.Shapes.{Shape, fields_at}
use Rattle.state_codec.specs.Ranges.{InRange}
use Rattle.shared_board.specs.Sharing.{Shares, stands_for}
use Rattle.adversary_script.proofs.LiesInRange.{depth_of_node}
use Rattle.adversary_script.specs.Eras.{faulty_at}
use Rattle.adversary_script.specs.Lookup.{hit_at}
use Rattle.round_runner.proofs.Behind.{put_behind, gathered_behind}
use Rattle.machine_runner.specs.Hearing.{HasRoom}
use Rattle.round_runner.specs.Laying.{IsLaid}
use Rattle.machine_runner.proofs.Places.{all_places}
use Rattle.round_runner.proofs.Costs.{round_cost}
use Rattle.round_runner.proofs.rounds.step_all.Goals as goal

pub lay_where-requires-clause-config : goal.lay_where-requires-clause-config
lay_where-requires-clause-config g c = record {
  shape = c.requires.set.shape;
  size = c.requires.set.size;
}

pub gather-requires-clause-deep : goal.gather-requires-clause-deep
gather-requires-clause-deep g c =
    let deep = c.requires.set.fits.depth in
    let same = ap (λ (s : Shape). s.depth) c.requires.set.shape in
    omega (arith, deep, same)

pub gather-requires-clause-range : goal.gather-requires-clause-range
gather-requires-clause-range g c =
    let config = c.args.states.now.current in
    all_places (IsInRange c.args.round.now.tower.now) config (λ u lt.
    c.requires.set.fits.counts u (omega (arith, lt, c.requires.set.size, c.args.round.now.nodes)) _
    (subst (λ (s : Shape). InRange (fields_at s u) (state_of config u)) c.requires.set.shape
    (c.facts.ensures.current u lt)))

pub gather-requires-clause-ids : goal.gather-requires-clause-ids
gather-requires-clause-ids g c =
    subst (λ (s : FaultIds). All (λ id. id < plan_nodes c.args.round.now.tower.now) s.ids)
    (sym c.args.round.now.liars) c.args.round.now.borne.ids

pub returns-clause-states : goal.returns-clause-states
returns-clause-states g c =
    let h = c.loop-v.invariant.stepped in
    c.loop-v.invariant.fixed
    ∙ ap (λ (next : List State). let p : Pack = record c.args.states.now { next = next } in p)
    (all_states (plan_meaning c.args.round.now.tower.now) c.args.round.now.script.now
    (g.O.Overlay.layer c.args.overlay.now) c.args.round.now.t c.args.states.now.current
    (g.O.Overlay.kept c.args.overlay.now) c.loop-v.v c.loop-v.states.next
    (g.O.Overlay.layer c.loop-v.overlay) (g.O.Overlay.kept c.loop-v.overlay)
    (omega (arith, c.loop-v-test.false, c.nodes-v-end.ensures.current, c.requires.set.size)) h)

pub returns-clause-kept : goal.returns-clause-kept
returns-clause-kept g c =
    let bound = c.loop-v.auto.v-end in
    all_kept (plan_meaning c.args.round.now.tower.now) c.args.round.now.script.now
    (g.O.Overlay.layer c.args.overlay.now) c.args.round.now.t c.args.states.now.current
    (g.O.Overlay.kept c.args.overlay.now) c.loop-v.v c.loop-v.states.next
    (g.O.Overlay.layer c.loop-v.overlay) (g.O.Overlay.kept c.loop-v.overlay)
    (omega (arith, bound, c.loop-v-test.false, c.nodes-v-end.ensures.current, c.requires.set.size))
    c.loop-v.invariant.stepped

pub loop-v-init : goal.loop-v-init
loop-v-init g c =
    let script = c.args.round.now.script.now in
    let config = c.args.states.now.current in
    let is = with_items_is c.args.room.now.heard c.lay_where.new.heard
    (c.lay_where.auto.heard ∙ c.deref_mut.ensures.len) in
    let set = c.requires.set in
    let room = set.ready in
    record {
      stepped = record {
        states = λ u lt. absurd (omega arith);
        size = c.facts.ensures.size ∙ c.requires.set.size;
        same = refl;
        count = refl;
        done = λ u lt. absurd (omega arith);
        rest = λ u le. refl;
      };
      fixed = refl;
      gathered = record {
        set = record {
          fits = set.fits;
          over = set.over;
          shape = set.shape;
          size = set.size;
          ready = record {
            noise = room.noise;
            heard = subst (HasRoom script) (sym is) c.lay_where.ensures.room;
            work = room.work;
            step = record {
              lies = room.step.lies;
              shared = ap (λ (s : Shares). s.plan) c.gather.ensures.stands;
              out = room.step.out;
            };
          };
        };
        stands = c.gather.ensures.stands
            ∙ ap (λ (s : FaultIds). stands_for c.args.round.now.tower.now config s.ids)
            c.args.round.now.liars;
        laid = λ some. subst (IsLaid script c.args.round.now.t config) (sym is)
            (c.lay_where.ensures.laid
            (lt-ltb 0 c.extra.result (omega (arith, some, c.extra.ensures))));
      };
      cost =
          let ids = ap (λ (s : FaultIds). length s.ids) c.args.round.now.liars in
          let cost = c.gather.ensures.cost in
          rw (sym ids) (omega (arith, cost));
    }

pub loop-v-preserved : goal.loop-v-preserved
loop-v-preserved g c =
    let h = c.loop-v.invariant in
    let plan = c.args.round.now.tower.now in
    let script = c.args.round.now.script.now in
    let lt : c.loop-v.v < script.nodes =
    omega (arith, c.loop-v-test.true, c.nodes-v-end.ensures.current, c.requires.set.size) in
    let fixed = h.fixed in
    let deep = depth_of_node script.shape c.loop-v.v _
    (c.put_hit.ensures.range c.step_with.ensures.range) in
    let hit = hit_at script (c.args.round.now.t + 1) c.loop-v.v in
    let put = put_behind c.loop-v.states c.put.new.self c.loop-v.v _ _ c.put.ensures
    (c.put_hit.ensures.state ∙ ap (unwrap_or hit) c.step_with.ensures.out) in
    record {
      stepped = rw (put, c.step_with.ensures.kept, fixed)
          (one_stepped (plan_meaning plan) script (g.O.Overlay.layer c.args.overlay.now)
          c.args.round.now.t
          c.args.states.now.current (g.O.Overlay.kept c.args.overlay.now) c.loop-v.v
          c.loop-v.states.next (g.O.Overlay.layer c.loop-v.overlay)
          (g.O.Overlay.layer c.step_with.new.overlay) (g.O.Overlay.kept c.loop-v.overlay) lt
          h.stepped c.step_with.ensures.layer);
      fixed = rw (put, fixed) refl;
      gathered = gathered_behind c.args.round.now (g.O.Overlay.layer c.args.overlay.now)
          c.args.states.now c.step_with.new.room c.put_hit.new.out
          (gathered_on c.args.round.now (g.O.Overlay.layer c.loop-v.overlay)
          (g.O.Overlay.layer c.args.overlay.now) (sym h.stepped.same) c.loop-v.states
          c.args.states.now c.step_with.new.room (sym (ap (λ (p : Pack). p.shape) fixed))
          (sym (ap (λ (p : Pack). p.current) fixed)) c.step_with.ensures.gathered) deep;
      cost = omega (arith, c.step_with.ensures.cost, h.cost);
    }

pub invariant_of-turn : goal.invariant_of-turn
invariant_of-turn g c =
    let h = c.loop-v.invariant in
    record {
      node = omega (
        arith,
        c.loop-v-test.true,
        c.nodes-v-end.ensures.current,
        c.requires.set.size,
      );
      shape = ap (λ (p : Pack). p.shape) h.fixed ∙ c.requires.set.shape;
      size = ap (λ (p : Pack). length p.current) h.fixed ∙ c.requires.set.size;
    }

pub put_hit-requires-clause-depth : goal.put_hit-requires-clause-depth
put_hit-requires-clause-depth g c =
    depth_of_node c.args.round.now.script.now.shape c.loop-v.v _ c.step_with.ensures.range

pub put-requires-clause-node : goal.put-requires-clause-node
put-requires-clause-node g c =
    let long = c.loop-v.invariant.stepped.size in
    omega (arith, c.loop-v-test.true, c.nodes-v-end.ensures.current, c.requires.set.size, long)

pub put-requires-clause-range : goal.put-requires-clause-range
put-requires-clause-range g c =
    let shape = ap (λ (p : Pack). p.shape) c.loop-v.invariant.fixed ∙ c.requires.set.shape in
    subst (λ (s : Shape). InRange (fields_at s c.loop-v.v) c.put_hit.new.out) (sym shape)
    (c.put_hit.ensures.range c.step_with.ensures.range)

pub returns-clause-cost : goal.returns-clause-cost
returns-clause-cost g c =
    let plan = c.args.round.now.tower.now in
    let q : ℕ = length (faulty_at c.args.round.now.script.now c.args.round.now.t) in
    let whole = round_cost (3 * plan_depth plan) (plan_nodes plan) q (plan_faults plan)
    c.args.round.now.borne.few in
    let cost = c.loop-v.invariant.cost in
    let end : c.loop-v.v ≡ plan_nodes plan = omega (
      arith,
      c.loop-v.auto.v-end,
      c.loop-v-test.false,
      c.nodes-v-end.ensures.current,
      c.requires.set.size,
      c.args.round.now.nodes,
    ) in
    let receivers : c.loop-v.v * (3 * plan_depth plan * q)
    ≡ plan_nodes plan * (3 * plan_depth plan * q) =
    ap (λ (n : ℕ). n * (3 * plan_depth plan * q)) end in
    omega (arith, cost, receivers, whole)

pub step_with-requires : goal.step_with-requires
step_with-requires g c =
    let h = c.loop-v.invariant in
    gathered_on c.args.round.now (g.O.Overlay.layer c.args.overlay.now)
    (g.O.Overlay.layer c.loop-v.overlay) h.stepped.same c.args.states.now c.loop-v.states
    c.loop-v.room (ap (λ (p : Pack). p.shape) h.fixed) (ap (λ (p : Pack). p.current) h.fixed)
    h.gathered

pub returns-clause-room : goal.returns-clause-room
returns-clause-room g c = c.loop-v.invariant.gathered.set.ready
