use Rattle.std.proofs.Common.{◌≡◌, ◌<◌, ◌≤◌, ℕ, List, length, refl, sym, ap, ◌∙◌, subst}
use Rattle.std.proofs.Common.{arith}
use Rattle.std.specs.Prelude.{slice_index}
use Rattle.std.proofs.lemmas.List.{with_items_is}
use Rattle.sync_types.specs.FaultSets.{FaultIds}
use Rattle.sync_types.specs.States.{State}
use Rattle.construction.specs.Plans.{plan_depth}
use Rattle.construction.specs.Steps.{state_of, step_of}
use Rattle.state_codec.specs.Shapes.{Shape, fields_at}
use Rattle.state_codec.specs.Ranges.{InRange}
use Rattle.shared_board.specs.Sharing.{stands_for}
use Rattle.counter_core.specs.Meanings.{written}
use Rattle.counter_core.specs.Working.{IsWorkFor}
use Rattle.adversary_script.proofs.LiesInRange.{depth_of_node}
use Rattle.round_runner.specs.declared.stepping.RoundBuffers.{RoundBuffers}
use Rattle.machine_runner.specs.Hearing.{HasRoom, heard_from}
use Rattle.round_runner.specs.Hearing.{AreLies}
use Rattle.round_runner.specs.Laying.{IsLaid, IsSameOrTold, IsEnough}
use Rattle.round_runner.specs.Rooms.{IsMadeFor}
use Rattle.round_runner.proofs.HeardPlaces.{all_heard}
use Rattle.round_runner.proofs.Laying.{enough, still_laid}
use Rattle.round_runner.proofs.LayerSteps.{can_turn, new_in_range, out_is}
use Rattle.round_runner.proofs.stepping.step_with.Goals as goal

-- the round as a node hears it
pub invariant_of-hearer : goal.invariant_of-hearer
invariant_of-hearer g c =
    let turn = c.args.turn.now in
    let round = turn.round.now in
    let fits = c.requires.set.fits in
    record {
      node = omega (arith, turn.node, round.nodes);
      nodes = ap (λ (s : FaultIds). s.nodes) round.liars ∙ round.nodes;
      size = turn.size ∙ round.nodes;
      takes = record {
        deep = omega (arith, fits.depth, ap (λ (s : Shape). s.depth) turn.shape);
        counts = λ u lt s range. fits.counts u lt s
            (subst (λ (shape : Shape). InRange (fields_at shape u) s) turn.shape range);
      };
    }

pub step_told-requires-clause-tells : goal.step_told-requires-clause-tells
step_told-requires-clause-tells g c =
    let turn = c.args.turn.now in
    record {
      faulty = refl;
      nodes = sym turn.round.now.nodes;
      shape = turn.shape;
      noise = ap (λ (r : RoundBuffers). r.noise) c.heed-layers.ensures.same
          ∙ c.requires.set.ready.noise;
    }

pub step_told-requires-clause-layers : goal.step_told-requires-clause-layers
step_told-requires-clause-layers g c =
    let within = c.heed-layers.ensures.within in
    let same = ap (λ (s : FaultIds). length s.ids) c.args.turn.now.round.now.liars in
    omega (arith, within, same)

pub step_told-requires-clause-room : goal.step_told-requires-clause-room
step_told-requires-clause-room g c =
    let turn = c.args.turn.now in
    let plan = turn.round.now.tower.now in
    subst (λ (r : RoundBuffers). IsMadeFor plan turn.states.now.shape.depth r.step)
    (sym c.heed-layers.ensures.same)
    (subst (λ (s : Shape). IsMadeFor plan s.depth c.args.room.now.step) (sym turn.shape)
    c.requires.set.ready.step)

pub step_told-requires-clause-stands : goal.step_told-requires-clause-stands
step_told-requires-clause-stands g c =
    let turn = c.args.turn.now in
    ap (λ (r : RoundBuffers). r.step.shared) c.heed-layers.ensures.same ∙ c.requires.stands
    ∙ ap (λ (s : FaultIds). stands_for turn.round.now.tower.now turn.states.now.current s.ids)
    (sym turn.round.now.liars)

pub lay_lies-requires-clause-stretch : goal.lay_lies-requires-clause-stretch
lay_lies-requires-clause-stretch g c =
    let within = c.heed-layers.ensures.within in
    let same = ap (λ (s : FaultIds). length s.ids) c.args.turn.now.round.now.liars in
    omega (arith, within, same)

pub lay_lies-requires-clause-lies : goal.lay_lies-requires-clause-lies
lay_lies-requires-clause-lies g c =
    let turn = c.args.turn.now in
    let plan = turn.round.now.tower.now in
    subst (AreLies plan turn.round.now.script.now.shape.depth) (sym c.deref.ensures.value)
    (subst (λ (s : Shape). AreLies plan s.depth c.step_told.new.room.lies.items) turn.shape
    c.step_told.ensures.room.lies)

pub lay_lies-requires-clause-room : goal.lay_lies-requires-clause-room
lay_lies-requires-clause-room g c =
    subst (HasRoom c.args.turn.now.round.now.script.now) (sym c.deref_mut.ensures.value)
    c.heed-layers.ensures.room

pub step_layer-requires-clause-set : goal.step_layer-requires-clause-set
step_layer-requires-clause-set g c =
    let turn = c.args.turn.now in
    let plan = turn.round.now.tower.now in
    let script = turn.round.now.script.now in
    let set = c.requires.set in
    let heed = c.heed-layers.ensures.same in
    let items = with_items_is c.heed-layers.new.room.heard c.lay_lies.new.heard
    (c.lay_lies.auto.heard ∙ c.deref_mut.ensures.len) in
    record {
      fits = set.fits;
      over = set.over;
      shape = set.shape;
      size = set.size;
      ready = record {
        noise = c.step_told.ensures.noise
            ∙ (ap (λ (r : RoundBuffers). r.noise) heed ∙ set.ready.noise);
        heard = subst (HasRoom script) (sym items) c.lay_lies.ensures.room;
        work = subst (λ (r : RoundBuffers). IsWorkFor script.nodes r.work)
            (sym heed) set.ready.work;
        step = subst (λ (s : Shape). IsMadeFor plan s.depth c.step_told.new.room) turn.shape
            c.step_told.ensures.room;
      };
    }

-- the lies that the layer heeds are laid
pub step_layer-requires-clause-enough : goal.step_layer-requires-clause-enough
step_layer-requires-clause-enough g c = λ some.
    let turn = c.args.turn.now in
    let round = turn.round.now in
    let plan = round.tower.now in
    let script = round.script.now in
    let t : ℕ = round.t in
    let config = turn.states.now.current in
    let layer = g.O.Overlay.layer c.args.overlay.now in
    let kept = g.O.Overlay.kept c.args.overlay.now in
    let can = can_turn layer turn c.args.room.now c.facts-2.ensures c.requires.set
    (g.met.O.Overlay.keeps_range c.args.overlay.now) (g.met.O.Overlay.deaf c.args.overlay.now)
    c.facts.ensures.sound c.facts.ensures.current in
    let from = c.heed-layers.result.0 in
    let to = c.heed-layers.result.1 in
    let lies = c.step_told.new.room.lies.items in
    let ids = ap (λ (s : FaultIds). s.ids) round.liars in
    let items = with_items_is c.heed-layers.new.room.heard c.lay_lies.new.heard
    (c.lay_lies.auto.heard ∙ c.deref_mut.ensures.len) in
    subst (IsEnough round layer kept turn.v config) (sym items)
    (enough round turn.v config c.facts-2.ensures turn.node
    c.heed-layers.new.room.heard.items c.lay_lies.new.heard lies from to
    (c.heed-layers.ensures.laid some) c.heed-layers.ensures.room.size c.lay_lies.ensures.room.size
    c.heed-layers.ensures.within
    (λ j low high. c.step_told.ensures.told j low high
    ∙ ap (λ (xs : List ℕ). heard_from script t turn.v config (slice_index xs j)) ids)
    (subst (λ (xs : List ℕ). (j : ℕ) → from ≤ j → j < to
    → state_of c.lay_lies.new.heard (slice_index xs j) ≡ state_of lies j) ids
    (subst (λ (ys : List State). (j : ℕ) → from ≤ j → j < to
    → state_of c.lay_lies.new.heard (slice_index round.faulty.now.ids j)
    ≡ state_of ys j) c.deref.ensures.value c.lay_lies.ensures.told))
    (subst (λ (xs : List ℕ). (u : ℕ) → IsSameOrTold xs from to lies
    (state_of c.heed-layers.new.room.heard.items u) u (state_of c.lay_lies.new.heard u)) ids
    (subst (λ (ys : List State). (u : ℕ) → IsSameOrTold round.faulty.now.ids from to ys
    (state_of c.heed-layers.new.room.heard.items u) u (state_of c.lay_lies.new.heard u))
    c.deref.ensures.value
    (subst (λ (ys : List State). (u : ℕ) → IsSameOrTold round.faulty.now.ids from to
    c.deref.result.now (state_of ys u) u (state_of c.lay_lies.new.heard u))
    c.deref_mut.ensures.value c.lay_lies.ensures.each)))
    layer kept can.sound can.range (c.heed-layers.ensures.enough some))

pub returns-clause-out : goal.returns-clause-out
returns-clause-out g c =
    let turn = c.args.turn.now in
    let round = turn.round.now in
    let plan = round.tower.now in
    let script = round.script.now in
    let t : ℕ = round.t in
    let config = turn.states.now.current in
    let layer = g.O.Overlay.layer c.args.overlay.now in
    let kept = g.O.Overlay.kept c.args.overlay.now in
    let can = can_turn layer turn c.args.room.now c.facts-2.ensures c.requires.set
    (g.met.O.Overlay.keeps_range c.args.overlay.now) (g.met.O.Overlay.deaf c.args.overlay.now)
    c.facts.ensures.sound c.facts.ensures.current in
    let before = c.heed-layers.new.room.step.out in
    out_is plan script layer kept t turn.v config can
    before c.step_told.new.room.out c.step_layer.new.room.step.out
    (ap (λ (r : RoundBuffers). length r.step.out.registers) c.heed-layers.ensures.same
    ∙ c.requires.set.ready.step.out)
    (c.step_told.ensures.out
    ∙ ap (λ (heard : List State). written (plan_depth plan) (step_of plan turn.v heard) before)
    (all_heard script t config turn.v _ round.faulty.now.ids (sym round.nodes)
    (ap (λ (s : FaultIds). s.ids) round.liars))) c.step_layer.ensures.out

pub returns-clause-range : goal.returns-clause-range
returns-clause-range g c =
    let turn = c.args.turn.now in
    let round = turn.round.now in
    let plan = round.tower.now in
    let script = round.script.now in
    let t : ℕ = round.t in
    let config = turn.states.now.current in
    let layer = g.O.Overlay.layer c.args.overlay.now in
    let kept = g.O.Overlay.kept c.args.overlay.now in
    let can = can_turn layer turn c.args.room.now c.facts-2.ensures c.requires.set
    (g.met.O.Overlay.keeps_range c.args.overlay.now) (g.met.O.Overlay.deaf c.args.overlay.now)
    c.facts.ensures.sound c.facts.ensures.current in
    subst (InRange (fields_at script.shape turn.v)) (sym (returns-clause-out g c))
    (new_in_range plan script layer kept t turn.v config can)

pub returns-clause-gathered : goal.returns-clause-gathered
returns-clause-gathered g c =
    let turn = c.args.turn.now in
    let round = turn.round.now in
    let plan = round.tower.now in
    let script = round.script.now in
    let t : ℕ = round.t in
    let config = turn.states.now.current in
    let layer = g.O.Overlay.layer c.args.overlay.now in
    let kept = g.O.Overlay.kept c.args.overlay.now in
    let can = can_turn layer turn c.args.room.now c.facts-2.ensures c.requires.set
    (g.met.O.Overlay.keeps_range c.args.overlay.now) (g.met.O.Overlay.deaf c.args.overlay.now)
    c.facts.ensures.sound c.facts.ensures.current in
    let from = c.heed-layers.result.0 in
    let to = c.heed-layers.result.1 in
    let lies = c.step_told.new.room.lies.items in
    let ids = ap (λ (s : FaultIds). s.ids) round.liars in
    let items = with_items_is c.heed-layers.new.room.heard c.lay_lies.new.heard
    (c.lay_lies.auto.heard ∙ c.deref_mut.ensures.len) in
    let made = subst (λ (s : Shape). IsMadeFor plan s.depth c.step_told.new.room) turn.shape
    c.step_told.ensures.room in
    let same = c.step_layer.ensures.same in
    let heed = c.heed-layers.ensures.same in
    let set = c.requires.set in
    record {
      set = record {
        fits = set.fits;
        over = set.over;
        shape = set.shape;
        size = set.size;
        ready = record {
          noise = ap (λ (r : RoundBuffers). r.noise) same ∙ (c.step_told.ensures.noise
              ∙ (ap (λ (r : RoundBuffers). r.noise) heed ∙ set.ready.noise));
          heard = subst (HasRoom script) (sym (ap (λ (r : RoundBuffers). r.heard.items) same
              ∙ items)) c.lay_lies.ensures.room;
          work = c.step_layer.ensures.work;
          step = record {
            lies = subst (λ (r : RoundBuffers). AreLies plan script.shape.depth r.step.lies.items)
                (sym same) made.lies;
            shared = ap (λ (r : RoundBuffers). r.step.shared.plan) same ∙ made.shared;
            out = depth_of_node script.shape turn.v _ (returns-clause-range g c);
          };
        };
      };
      stands = ap (λ (r : RoundBuffers). r.step.shared) same ∙ (c.step_told.ensures.shared
          ∙ (ap (λ (r : RoundBuffers). r.step.shared) heed ∙ c.requires.stands));
      laid = λ some. subst (IsLaid script t config)
          (sym (ap (λ (r : RoundBuffers). r.heard.items) same ∙ items))
          (still_laid round turn.v config c.facts-2.ensures turn.node
          c.heed-layers.new.room.heard.items c.lay_lies.new.heard lies from to
          (c.heed-layers.ensures.laid some) c.heed-layers.ensures.room.size
          c.lay_lies.ensures.room.size c.heed-layers.ensures.within
          (λ j low high. c.step_told.ensures.told j low high
          ∙ ap (λ (xs : List ℕ). heard_from script t turn.v config (slice_index xs j)) ids)
          (subst (λ (xs : List ℕ). (j : ℕ) → from ≤ j → j < to
          → state_of c.lay_lies.new.heard (slice_index xs j) ≡ state_of lies j) ids
          (subst (λ (ys : List State). (j : ℕ) → from ≤ j → j < to
          → state_of c.lay_lies.new.heard (slice_index round.faulty.now.ids j)
          ≡ state_of ys j) c.deref.ensures.value c.lay_lies.ensures.told))
          (subst (λ (xs : List ℕ). (u : ℕ) → IsSameOrTold xs from to lies
          (state_of c.heed-layers.new.room.heard.items u) u (state_of c.lay_lies.new.heard u)) ids
          (subst (λ (ys : List State). (u : ℕ) → IsSameOrTold round.faulty.now.ids from to ys
          (state_of c.heed-layers.new.room.heard.items u) u (state_of c.lay_lies.new.heard u))
          c.deref.ensures.value
          (subst (λ (ys : List State). (u : ℕ) → IsSameOrTold round.faulty.now.ids from to
          c.deref.result.now (state_of ys u) u (state_of c.lay_lies.new.heard u))
          c.deref_mut.ensures.value c.lay_lies.ensures.each)))
          can.sound can.range);
    }
