use Rattle.std.proofs.Common.{◌≡◌, ◌*◌, ◌<◌, ◌≤◌, ℕ, length, List, All, refl, sym, ap, ◌∙◌, subst, arith}
use Rattle.std.specs.Prelude.{slice_set}
use Rattle.std.proofs.lemmas.Bool.{lt-ltb}
use Rattle.std.proofs.lemmas.List.{with_items_is}
use Rattle.sync_types.specs.FaultSets.{FaultIds}
use Rattle.sync_types.specs.States.{State}
use Rattle.construction.specs.Steps.{state_of}
use Rattle.counter_core.specs.Overlays.{Layer, HasValues}
use Rattle.state_codec.specs.Packs.{Pack}
use Rattle.state_codec.specs.Shapes.{Shape, fields_at}
use Rattle.state_codec.specs.Ranges.{InRange}
use Rattle.machine_runner.specs.Hearing.{HasRoom}
use Rattle.layer_laws.proofs.Stepped.{one_stepped, all_states, all_kept}
use Rattle.player.specs.Counters.{machine_counter}
use Rattle.player.specs.ReadOver.{IsReadWithLayer}
use Rattle.player.specs.Rooms.{sent_of}
use Rattle.player.proofs.Costs.{round_cost, few_liars}
use Rattle.player.proofs.Laid.{begun_with, fronts_of, values_of}
use Rattle.player.proofs.stepping.step_all.Goals as goal

pub gather-requires-clause-config : goal.gather-requires-clause-config
gather-requires-clause-config g c =
    fronts_of (g.M.Machine.machine c.args.machine.now) (g.O.Overlay.layer c.args.overlay.now)
    c.args.round.now.script.now c.args.states.now.shape c.args.states.now.current c.facts.ensures
    c.requires.read c.requires.config.shape c.requires.config.size c.facts-2.ensures.current

pub gather-requires-clause-nodes : goal.gather-requires-clause-nodes
gather-requires-clause-nodes g c =
    ap (λ (s : FaultIds). s.nodes) c.args.round.now.liars ∙ c.requires.read.right.nodes

pub gather-requires-clause-deep : goal.gather-requires-clause-deep
gather-requires-clause-deep g c =
    let depth = c.requires.read.shape.depth in
    let same = ap (λ (s : Shape). s.depth) c.requires.config.shape in
    omega (arith, depth, same)

pub loop-v-init : goal.loop-v-init
loop-v-init g c =
    let script = c.args.round.now.script.now in
    let t : ℕ = c.args.round.now.t in
    let machine = g.M.Machine.machine c.args.machine.now in
    let layer = g.O.Overlay.layer c.args.overlay.now in
    let config = c.args.states.now.current in
    let ready = c.requires.ready in
    let heard = with_items_is c.args.room.now.heard c.lay_where.new.heard
    (c.lay_where.auto.heard ∙ c.deref_mut.ensures.len) in
    record {
      stepped = record {
        states = λ u lt. absurd (omega (arith, lt));
        size = c.facts-2.ensures.size ∙ c.requires.config.size;
        same = refl;
        count = refl;
        done = λ u lt. absurd (omega (arith, lt));
        rest = λ u le. refl;
      };
      fixed = refl;
      begun = record {
        ready = record {
          noise = ready.noise;
          heard = subst (HasRoom script) (sym heard) c.lay_where.ensures.room;
          lies = ready.lies;
          work = ready.work;
          out = ready.out;
        };
        own = c.requires.own;
        laid = λ some.
            let is = heard ∙ c.lay_where.ensures.laid (lt-ltb 0 c.extra.result
            (omega (arith, some, c.extra.ensures))) in
            record {
              honest = λ u lt correct. ap (λ (xs : List State). state_of xs u) is;
              values = subst (λ (xs : List State). All (HasValues layer) xs) (sym is)
                  (values_of machine layer script c.args.states.now.shape config c.facts.ensures
                  c.requires.read c.requires.config.shape c.requires.config.size
                  c.facts-2.ensures.current);
            };
      };
      cost = let cost = c.gather.ensures.cost in omega (arith, cost);
      stands = c.gather.ensures.stands;
    }

pub invariant_of-turn : goal.invariant_of-turn
invariant_of-turn g c =
    let h = c.loop-v.invariant in
    record {
      node = omega (
        arith,
        c.loop-v-test.true,
        c.nodes-v-end.ensures.current,
        c.requires.config.size,
      );
      shape = ap (λ (p : Pack). p.shape) h.fixed ∙ c.requires.config.shape;
      size = ap (λ (p : Pack). length p.current) h.fixed ∙ c.requires.config.size;
    }

pub step-requires-clause-read : goal.step-requires-clause-read
step-requires-clause-read g c =
    subst (λ (l : Layer _). IsReadWithLayer (g.M.Machine.machine c.args.machine.now) l
    c.args.round.now.script.now) (sym c.loop-v.invariant.stepped.same) c.requires.read

pub step-requires-clause-begun : goal.step-requires-clause-begun
step-requires-clause-begun g c =
    begun_with (g.O.Overlay.layer c.args.overlay.now) (g.O.Overlay.layer c.loop-v.overlay)
    c.args.round.now.script.now c.args.round.now.t c.args.round.now.faulty.now.ids
    c.args.states.now.current c.loop-v.states.current c.loop-v.room
    (sym c.loop-v.invariant.stepped.same)
    (sym (ap (λ (p : Pack). p.current) c.loop-v.invariant.fixed)) c.loop-v.invariant.begun

pub step-requires-clause-stands : goal.step-requires-clause-stands
step-requires-clause-stands g c =
    subst (λ (p : Pack). g.M.Rounds.stands c.args.machine.now
    (sent_of p c.args.round.now.faulty.now.ids) c.loop-v.shared) (sym c.loop-v.invariant.fixed)
    c.loop-v.invariant.stands

pub put-requires-clause-node : goal.put-requires-clause-node
put-requires-clause-node g c =
    let long = c.loop-v.invariant.stepped.size in
    omega (
      arith,
      c.loop-v-test.true,
      c.nodes-v-end.ensures.current,
      c.requires.config.size,
      long,
    )

pub put-requires-clause-range : goal.put-requires-clause-range
put-requires-clause-range g c =
    let shape = ap (λ (p : Pack). p.shape) c.loop-v.invariant.fixed ∙ c.requires.config.shape in
    subst (λ (s : Shape). InRange (fields_at s c.loop-v.v) c.step.new.room.out) (sym shape)
    c.step.ensures.range

pub loop-v-preserved : goal.loop-v-preserved
loop-v-preserved g c =
    let machine = g.M.Machine.machine c.args.machine.now in
    let script = c.args.round.now.script.now in
    let ids = c.args.round.now.faulty.now.ids in
    let h = c.loop-v.invariant in
    let fixed = h.fixed in
    let lt : c.loop-v.v < script.nodes =
    omega (arith, c.loop-v-test.true, c.nodes-v-end.ensures.current, c.requires.config.size) in
    let put = c.put.ensures ∙ ap (λ (s : State). let p : Pack =
    record c.loop-v.states { next = slice_set c.loop-v.states.next c.loop-v.v s } in p)
    c.step.ensures.state in
    record {
      stepped = rw (put, c.step.ensures.kept, fixed)
          (one_stepped (machine_counter machine) script (g.O.Overlay.layer c.args.overlay.now)
          c.args.round.now.t c.args.states.now.current (g.O.Overlay.kept c.args.overlay.now)
          c.loop-v.v c.loop-v.states.next (g.O.Overlay.layer c.loop-v.overlay)
          (g.O.Overlay.layer c.step.new.overlay) (g.O.Overlay.kept c.loop-v.overlay) lt
          h.stepped c.step.ensures.layer);
      fixed = rw (put, fixed) refl;
      begun = begun_with (g.O.Overlay.layer c.loop-v.overlay)
          (g.O.Overlay.layer c.args.overlay.now) script c.args.round.now.t ids
          c.loop-v.states.current c.args.states.now.current c.step.new.room h.stepped.same
          (ap (λ (p : Pack). p.current) fixed) c.step.ensures.begun;
      cost = omega (arith, c.step.ensures.cost, h.cost);
      stands = subst (λ (p : Pack). g.M.Rounds.stands c.args.machine.now (sent_of p ids)
          c.step.new.shared) fixed c.step.ensures.stands;
    }

pub returns-clause-states : goal.returns-clause-states
returns-clause-states g c =
    let h = c.loop-v.invariant.stepped in
    c.loop-v.invariant.fixed
    ∙ ap (λ (next : List State). let p : Pack = record c.args.states.now { next = next } in p)
    (all_states (machine_counter (g.M.Machine.machine c.args.machine.now))
    c.args.round.now.script.now (g.O.Overlay.layer c.args.overlay.now) c.args.round.now.t
    c.args.states.now.current (g.O.Overlay.kept c.args.overlay.now) c.loop-v.v
    c.loop-v.states.next (g.O.Overlay.layer c.loop-v.overlay)
    (g.O.Overlay.kept c.loop-v.overlay)
    (omega (arith, c.loop-v-test.false, c.nodes-v-end.ensures.current, c.requires.config.size)) h)

pub returns-clause-kept : goal.returns-clause-kept
returns-clause-kept g c =
    let bound = c.loop-v.auto.v-end in
    all_kept (machine_counter (g.M.Machine.machine c.args.machine.now))
    c.args.round.now.script.now (g.O.Overlay.layer c.args.overlay.now) c.args.round.now.t
    c.args.states.now.current (g.O.Overlay.kept c.args.overlay.now) c.loop-v.v
    c.loop-v.states.next (g.O.Overlay.layer c.loop-v.overlay)
    (g.O.Overlay.kept c.loop-v.overlay)
    (omega (
      arith,
      bound,
      c.loop-v-test.false,
      c.nodes-v-end.ensures.current,
      c.requires.config.size,
    ))
    c.loop-v.invariant.stepped

pub returns-clause-layer : goal.returns-clause-layer
returns-clause-layer g c = c.loop-v.invariant.stepped.same

pub returns-clause-ready : goal.returns-clause-ready
returns-clause-ready g c = c.loop-v.invariant.begun.ready

pub returns-clause-own : goal.returns-clause-own
returns-clause-own g c = c.loop-v.invariant.begun.own

pub returns-clause-made : goal.returns-clause-made
returns-clause-made g c =
    g.met.M.Rounds.still_made c.args.machine.now
    (sent_of c.args.states.now c.args.round.now.faulty.now.ids) c.loop-v.shared
    c.loop-v.invariant.stands

pub returns-clause-cost : goal.returns-clause-cost
returns-clause-cost g c =
    let machine = g.M.Machine.machine c.args.machine.now in
    let script = c.args.round.now.script.now in
    let each : ℕ = g.M.Rounds.cost c.args.machine.now in
    let ids = c.args.round.now.faulty.now.ids in
    let q : ℕ = length ids in
    let few : q ≤ machine.faults = subst (λ (xs : List ℕ). length xs ≤ machine.faults)
    (sym (ap (λ (s : FaultIds). s.ids) c.args.round.now.liars))
    (few_liars machine.nodes machine.faults script c.args.round.now.t c.requires.read.right) in
    let whole = round_cost each machine.nodes q machine.faults few in
    let cost = c.loop-v.invariant.cost in
    let end : c.loop-v.v ≡ machine.nodes = omega (
      arith,
      c.loop-v.auto.v-end,
      c.loop-v-test.false,
      c.nodes-v-end.ensures.current,
      c.requires.config.size,
      c.requires.read.right.nodes,
    ) in
    let receivers : c.loop-v.v * (each * q) ≡ machine.nodes * (each * q) =
    ap (λ (n : ℕ). n * (each * q)) end in
    omega (arith, cost, receivers, whole)
