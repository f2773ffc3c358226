use Rattle.std.proofs.Common.{◌<◌, ◌≤◌, ◌*◌, ℕ, List, All, length, take, sym, ap, ap₂, ◌∙◌, refl}
use Rattle.std.proofs.Common.{subst, arith}
use Rattle.std.proofs.lemmas.List.{length-set, get_or_default}
use Rattle.sync_types.specs.States.{State}
use Rattle.run_checker.specs.Grammar.{pairs_of}
use Rattle.state_codec.specs.Shapes.{Shape, fields_at, bytes_in, shape_nodes}
use Rattle.run_checker.specs.Tellings.{Telling, states_read}
use Rattle.run_checker.proofs.BodyKept.{Below}
use Rattle.run_checker.proofs.StatesRead.{none_read, counted_more}
use Rattle.run_checker.proofs.tellings.Tellings.begin.Goals as goal

pub take_pairs-requires : goal.take_pairs-requires
take_pairs-requires c =
    let room = ap (λ (t : Telling). t.room) c.self.view_is in
    omega (arith, c.requires.room, room, c.self.invariant.room)

pub loop-k-init : goal.loop-k-init
loop-k-init c =
    let room = ap (λ (t : Telling). t.room) c.self.view_is in
    record {
      shape = ap (λ (t : Telling). t.shape) c.self.view_is;
      count = refl;
      pairs = c.take_pairs.ensures.pairs;
      capacity = omega (arith, c.take_pairs.ensures.room, c.self.invariant.room, room);
      size = room;
      rooms = λ j lt. absurd (omega (arith, lt));
    }

pub bytes_of-bytes-requires : goal.bytes_of-bytes-requires
bytes_of-bytes-requires c =
    let h = c.loop-k.invariant in
    let senders = subst (All (Below c.args.faulty.now.nodes))
    (c.take_pairs.ensures.pairs ∙ sym h.pairs) c.take_pairs.ensures.senders in
    let nodes = c.requires.nodes ∙ ap shape_nodes (sym h.shape) in
    let count = ap (λ (l : List (ℕ × ℕ)). length l) h.pairs in
    let ends = ap (λ (l : List (ℕ × ℕ)). length l) c.take_pairs.ensures.pairs in
    let below = subst (λ (p : ℕ × ℕ). p.0 < c.args.faulty.now.nodes) (sym c.index.ensures)
    (senders c.loop-k.k c.index.result.now
    (omega (arith, c.loop-k-test.true, c.len-k-end.ensures, count, ends))) in
    omega (arith, below, c.sender.ensures, nodes)

pub zeros-requires : goal.zeros-requires
zeros-requires c =
    let h = c.loop-k.invariant in
    let short = subst (λ (s : Shape). bytes_in (fields_at s c.sender.result) ≤ 32)
    (ap (λ (t : Telling). t.shape) c.self.view_is ∙ sym h.shape)
    (c.self.invariant.short c.sender.result) in
    omega (arith, short, c.bytes_of-bytes.ensures.value)

pub loop-k-preserved : goal.loop-k-preserved
loop-k-preserved c =
    let h = c.loop-k.invariant in
    let shape = c.loop-k.self-inside.shape in
    let pairs = c.loop-k.self-inside.pairs.items in
    let texts = c.loop-k.self-inside.digits.items in
    let text = c.zeros.result in
    let count = ap (λ (l : List (ℕ × ℕ)). length l) h.pairs in
    let ends = ap (λ (l : List (ℕ × ℕ)). length l) c.take_pairs.ensures.pairs in
    let inside : c.loop-k.k < length pairs =
    omega (arith, c.loop-k-test.true, c.len-k-end.ensures, count, ends) in
    record {
      shape = h.shape;
      count = h.count;
      pairs = h.pairs;
      capacity = h.capacity;
      size = length-set texts c.loop-k.k text ∙ h.size;
      rooms = counted_more shape pairs texts c.loop-k.k text
          (omega (arith, inside, count, h.size, c.requires.room))
          (c.zeros.ensures.length ∙ ap (λ (n : ℕ). 2 * n) c.bytes_of-bytes.ensures.value
          ∙ ap (λ (v : ℕ). 2 * bytes_in (fields_at shape v)) c.sender.ensures
          ∙ ap (λ (p : ℕ × ℕ). 2 * bytes_in (fields_at shape p.0))
          (c.index.ensures
          ∙ get_or_default pairs c.loop-k.k c.index.result.now (0, 0) inside)) h.rooms;
    }

pub invariant_of-self : goal.invariant_of-self
invariant_of-self c =
    let h = c.loop-k.invariant in
    let inside = c.loop-k.self-inside in
    let senders = subst (All (Below c.args.faulty.now.nodes))
    (c.take_pairs.ensures.pairs ∙ sym h.pairs) c.take_pairs.ensures.senders in
    let nodes = c.requires.nodes ∙ ap shape_nodes (sym h.shape) in
    let count = ap (λ (l : List (ℕ × ℕ)). length l) h.pairs in
    let ends = ap (λ (l : List (ℕ × ℕ)). length l) c.take_pairs.ensures.pairs in
    record {
      fits = omega (arith, h.count);
      many = omega (arith, h.size, count, c.requires.room);
      room = omega (arith, h.size, h.capacity);
      senders = subst (λ (n : ℕ). All (Below n) inside.pairs.items) nodes senders;
      short = λ v. subst (λ (s : Shape). bytes_in (fields_at s v) ≤ 32)
          (ap (λ (t : Telling). t.shape) c.self.view_is ∙ sym h.shape)
          (c.self.invariant.short v);
      rooms = λ k lt. h.rooms k (omega (
        arith,
        lt,
        count,
        ends,
        c.loop-k-test.false,
        c.len-k-end.ensures,
      ));
    }

pub returns-clause-value : goal.returns-clause-value
returns-clause-value c =
    let h = c.loop-k.invariant in
    let inside = c.loop-k.self-inside in
    let view : Shape → List (ℕ × ℕ) → (count room : ℕ) → Telling = λ shape pairs count room.
    record {
      pairs = pairs;
      shape = shape;
      states = states_read shape pairs (take count inside.digits.items);
      room = room;
    } in
    ap₂ (λ shape pairs. view shape pairs inside.count (length inside.digits.items)) h.shape
    h.pairs
    ∙ ap₂ (view c.args.self.now.shape (pairs_of c.args.faulty.now.nodes c.args.faulty.now.ids))
    h.count h.size
    ∙ ap (λ (states : List State). let t : Telling = record {
      pairs = pairs_of c.args.faulty.now.nodes c.args.faulty.now.ids;
      shape = c.args.self.now.shape;
      states = states;
      room = c.args.self.now.room;
    } in t) (none_read c.args.self.now.shape
    (pairs_of c.args.faulty.now.nodes c.args.faulty.now.ids))

pub returns-clause-senders : goal.returns-clause-senders
returns-clause-senders c =
    subst (All (Below c.args.faulty.now.nodes))
    (c.take_pairs.ensures.pairs ∙ sym c.loop-k.invariant.pairs) c.take_pairs.ensures.senders
