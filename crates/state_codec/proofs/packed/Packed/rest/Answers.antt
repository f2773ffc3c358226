use Rattle.std.proofs.Common.{arith, ap, ◌≡◌, ◌<◌, ◌≤◌, ◌+◌, ◌-◌, length, take, drop}
use Rattle.std.proofs.Common.{subst}
use Rattle.construction.specs.Steps.{state_of}
use Rattle.state_codec.specs.Shapes.{fields_at, bytes_in}
use Rattle.state_codec.specs.Writing.{written}
use Rattle.state_codec.specs.Reading.{read}
use Rattle.state_codec.specs.Packs.{Pack, start_of}
use Rattle.state_codec.proofs.Holding.{length-states, length-starts, start_at, end_within}
use Rattle.state_codec.proofs.Holding.{rest_held}
use Rattle.state_codec.proofs.packed.Packed.rest.Goals as goal

pub index-requires : goal.index-requires
index-requires c =
    let inside = c.self.inside in
    omega (
      arith,
      c.requires,
      length-states inside.shape inside.nodes inside.current.items,
      ap (λ (p : Pack). length p.current) c.self.view_is,
      length-starts inside.shape inside.nodes inside.starts.items c.self.invariant.starts,
    )

pub slice_bounds-result-count : goal.slice_bounds-result-count
slice_bounds-result-count c =
    let inside = c.self.inside in
    let lt : c.args.v < inside.nodes =
    omega (
      arith,
      c.requires,
      length-states inside.shape inside.nodes inside.current.items,
      ap (λ (p : Pack). length p.current) c.self.view_is,
    ) in
    let begins : c.index.result.now ≡ start_of inside.shape c.args.v =
    start_at inside.shape inside.nodes c.args.v inside.starts.items c.index.result.now
    c.index.result.now c.self.invariant.starts (omega (arith, lt)) c.index.ensures in
    omega (
      arith,
      begins,
      end_within inside.shape c.args.v inside.nodes lt,
      c.self.invariant.current.room,
    )

pub slice_bounds-result-start : goal.slice_bounds-result-start
slice_bounds-result-start c =
    let inside = c.self.inside in
    let lt : c.args.v < inside.nodes =
    omega (
      arith,
      c.requires,
      length-states inside.shape inside.nodes inside.current.items,
      ap (λ (p : Pack). length p.current) c.self.view_is,
    ) in
    let begins : c.index.result.now ≡ start_of inside.shape c.args.v =
    start_at inside.shape inside.nodes c.args.v inside.starts.items c.index.result.now
    c.index.result.now c.self.invariant.starts (omega (arith, lt)) c.index.ensures in
    omega (
      arith,
      begins,
      end_within inside.shape c.args.v inside.nodes lt,
      c.self.invariant.current.room,
    )

pub returns-clause-within : goal.returns-clause-within
returns-clause-within c =
    let inside = c.self.inside in
    let lt : c.args.v < inside.nodes =
    omega (
      arith,
      c.requires,
      length-states inside.shape inside.nodes inside.current.items,
      ap (λ (p : Pack). length p.current) c.self.view_is,
    ) in
    let begins = start_at inside.shape inside.nodes c.args.v inside.starts.items
    c.index.result.now c.index.result.now c.self.invariant.starts (omega (arith, lt))
    c.index.ensures in
    let held = rest_held inside.shape inside.nodes inside.current.items c.args.v
    c.index.result.now c.deref.result.now c.self.invariant.current lt begins c.deref.ensures.value in
    subst (λ (p : Pack). bytes_in (fields_at p.shape c.args.v) + 8
    ≤ length (take (length c.deref.result.now - c.index.result.now)
    (drop c.index.result.now c.deref.result.now))) c.self.view_is held.0

pub returns-clause-whole : goal.returns-clause-whole
returns-clause-whole c =
    let inside = c.self.inside in
    let lt : c.args.v < inside.nodes =
    omega (
      arith,
      c.requires,
      length-states inside.shape inside.nodes inside.current.items,
      ap (λ (p : Pack). length p.current) c.self.view_is,
    ) in
    let begins = start_at inside.shape inside.nodes c.args.v inside.starts.items
    c.index.result.now c.index.result.now c.self.invariant.starts (omega (arith, lt))
    c.index.ensures in
    let held = rest_held inside.shape inside.nodes inside.current.items c.args.v
    c.index.result.now c.deref.result.now c.self.invariant.current lt begins c.deref.ensures.value in
    subst (λ (p : Pack). take (bytes_in (fields_at p.shape c.args.v))
    (take (length c.deref.result.now - c.index.result.now)
    (drop c.index.result.now c.deref.result.now))
    ≡ written (fields_at p.shape c.args.v) (state_of p.current c.args.v)) c.self.view_is held.1.0

pub returns-clause-state : goal.returns-clause-state
returns-clause-state c =
    let inside = c.self.inside in
    let lt : c.args.v < inside.nodes =
    omega (
      arith,
      c.requires,
      length-states inside.shape inside.nodes inside.current.items,
      ap (λ (p : Pack). length p.current) c.self.view_is,
    ) in
    let begins = start_at inside.shape inside.nodes c.args.v inside.starts.items
    c.index.result.now c.index.result.now c.self.invariant.starts (omega (arith, lt))
    c.index.ensures in
    let held = rest_held inside.shape inside.nodes inside.current.items c.args.v
    c.index.result.now c.deref.result.now c.self.invariant.current lt begins c.deref.ensures.value in
    subst (λ (p : Pack). read (fields_at p.shape c.args.v)
    (take (bytes_in (fields_at p.shape c.args.v))
    (take (length c.deref.result.now - c.index.result.now)
    (drop c.index.result.now c.deref.result.now)))
    ≡ state_of p.current c.args.v) c.self.view_is held.1.1
