use Rattle.std.proofs.Common.{arith, ap, sym, subst, refl, ◌≡◌, ◌<◌, ◌+◌, ◌∙◌, length, List, ℕ}
use Rattle.std.proofs.Common.{take, drop, set, ◌++◌}
use Rattle.std.specs.Vec.{with_items}
use Rattle.std.proofs.lemmas.List.{with_items_is}
use Rattle.sync_types.specs.States.{State}
use Rattle.state_codec.specs.Shapes.{Fields, fields_at, bytes_in}
use Rattle.state_codec.specs.Ranges.{InRange}
use Rattle.state_codec.specs.Writing.{written}
use Rattle.state_codec.specs.Packs.{Pack, AreHeld, start_of, states_in}
use Rattle.state_codec.proofs.Holding.{length-states, length-starts, start_at, end_within}
use Rattle.state_codec.proofs.Holding.{put_held, put_seen, length-written}
use Rattle.state_codec.proofs.packed.Packed.put.Goals as goal

pub index-start-requires : goal.index-start-requires
index-start-requires c =
    let inside = c.self.inside in
    let lt : c.args.v < inside.nodes =
    omega (
      arith,
      c.requires.node,
      length-states inside.shape inside.nodes inside.next.items,
      ap (λ (p : Pack). length p.next) c.self.view_is,
    ) in
    omega (
      arith,
      lt,
      length-starts inside.shape inside.nodes inside.starts.items c.self.invariant.starts,
      inside.starts.ok.0,
    )

pub fields-requires : goal.fields-requires
fields-requires c =
    let inside = c.self.inside in
    let lt : c.args.v < inside.nodes =
    omega (
      arith,
      c.requires.node,
      length-states inside.shape inside.nodes inside.next.items,
      ap (λ (p : Pack). length p.next) c.self.view_is,
    ) in
    omega (arith, lt, c.self.invariant.few)

pub write_at-requires-clause-within : goal.write_at-requires-clause-within
write_at-requires-clause-within c =
    let inside = c.self.inside in
    let lt : c.args.v < inside.nodes =
    omega (
      arith,
      c.requires.node,
      length-states inside.shape inside.nodes inside.next.items,
      ap (λ (p : Pack). length p.next) c.self.view_is,
    ) in
    let begins = start_at inside.shape inside.nodes c.args.v inside.starts.items
    c.index-start.result.now c.index-start.result.now c.self.invariant.starts (omega (arith, lt))
    c.index-start.ensures in
    omega (
      arith,
      begins,
      ap bytes_in c.fields.ensures,
      ap length c.deref_mut.ensures.value,
      end_within inside.shape c.args.v inside.nodes lt,
      c.self.invariant.next.room,
    )

pub invariant_of-self : goal.invariant_of-self
invariant_of-self c =
    let inside = c.self.inside in
    let lt : c.args.v < inside.nodes =
    omega (
      arith,
      c.requires.node,
      length-states inside.shape inside.nodes inside.next.items,
      ap (λ (p : Pack). length p.next) c.self.view_is,
    ) in
    let shape = inside.shape in
    let fields : Fields = c.fields.result.now in
    let own : Fields = fields_at shape c.args.v in
    let begins = start_at shape inside.nodes c.args.v inside.starts.items
    c.index-start.result.now c.index-start.result.now c.self.invariant.starts (omega (arith, lt))
    c.index-start.ensures in
    let old = inside.next.items in
    let after = c.write_at.new.bytes in
    let text = written own c.args.state.now in
    let whole : after ≡ take (start_of shape c.args.v) old
    ++ (text ++ drop (start_of shape c.args.v + bytes_in own) old) =
    c.write_at.ensures
    ∙ (ap (λ (xs : List ℕ). take c.index-start.result.now xs
    ++ (written fields c.args.state.now
    ++ drop (c.index-start.result.now + bytes_in fields) xs)) c.deref_mut.ensures.value
    ∙ (ap (λ (f : Fields). take c.index-start.result.now old
    ++ (written f c.args.state.now
    ++ drop (c.index-start.result.now + bytes_in f) old)) c.fields.ensures
    ∙ ap (λ j. take j old ++ (text ++ drop (j + bytes_in own) old)) begins)) in
    let long : length text ≡ bytes_in own = length-written own c.args.state.now in
    let range : InRange own c.args.state.now =
    subst (λ (p : Pack). InRange (fields_at p.shape c.args.v) c.args.state.now)
    (sym c.self.view_is) c.requires.range in
    let held = put_held shape inside.nodes c.args.v old text after c.self.invariant.next lt long
    whole c.args.state.now refl c.self.invariant.sound range in
    let same : length after ≡ inside.next.len =
    held.room ∙ (sym c.self.invariant.next.room ∙ sym inside.next.ok.0) in
    let items : (with_items inside.next after).items ≡ after =
    with_items_is inside.next after same in
    record {
      sound = c.self.invariant.sound;
      few = c.self.invariant.few;
      most = c.self.invariant.most;
      starts = c.self.invariant.starts;
      current = c.self.invariant.current;
      next = subst (AreHeld shape inside.nodes) (sym items) held;
    }

pub returns : goal.returns
returns c =
    let inside = c.self.inside in
    let lt : c.args.v < inside.nodes =
    omega (
      arith,
      c.requires.node,
      length-states inside.shape inside.nodes inside.next.items,
      ap (λ (p : Pack). length p.next) c.self.view_is,
    ) in
    let shape = inside.shape in
    let fields : Fields = c.fields.result.now in
    let own : Fields = fields_at shape c.args.v in
    let begins = start_at shape inside.nodes c.args.v inside.starts.items
    c.index-start.result.now c.index-start.result.now c.self.invariant.starts (omega (arith, lt))
    c.index-start.ensures in
    let old = inside.next.items in
    let after = c.write_at.new.bytes in
    let text = written own c.args.state.now in
    let whole : after ≡ take (start_of shape c.args.v) old
    ++ (text ++ drop (start_of shape c.args.v + bytes_in own) old) =
    c.write_at.ensures
    ∙ (ap (λ (xs : List ℕ). take c.index-start.result.now xs
    ++ (written fields c.args.state.now
    ++ drop (c.index-start.result.now + bytes_in fields) xs)) c.deref_mut.ensures.value
    ∙ (ap (λ (f : Fields). take c.index-start.result.now old
    ++ (written f c.args.state.now
    ++ drop (c.index-start.result.now + bytes_in f) old)) c.fields.ensures
    ∙ ap (λ j. take j old ++ (text ++ drop (j + bytes_in own) old)) begins)) in
    let long : length text ≡ bytes_in own = length-written own c.args.state.now in
    let range : InRange own c.args.state.now =
    subst (λ (p : Pack). InRange (fields_at p.shape c.args.v) c.args.state.now)
    (sym c.self.view_is) c.requires.range in
    let held = put_held shape inside.nodes c.args.v old text after c.self.invariant.next lt long
    whole c.args.state.now refl c.self.invariant.sound range in
    let same : length after ≡ inside.next.len =
    held.room ∙ (sym c.self.invariant.next.room ∙ sym inside.next.ok.0) in
    let items : (with_items inside.next after).items ≡ after =
    with_items_is inside.next after same in
    let seen = put_seen shape inside.nodes c.args.v old text after c.self.invariant.next lt long
    whole c.args.state.now refl c.self.invariant.sound range in
    ap (λ (xs : List State). record {
      shape = shape;
      current = states_in shape inside.nodes inside.current.items;
      next = xs;
    }) (ap (states_in shape inside.nodes) items ∙ seen)
    ∙ ap (λ (p : Pack). record p { next = set p.next c.args.v c.args.state.now }) c.self.view_is
