use Rattle.std.proofs.Common.{rules, arith, ◌≡◌, ◌+◌, ◌<◌, ◌^◌, ◌∙◌, List, replicate, ap}
use Rattle.std.proofs.Common.{ap₂, sym, subst, ◌≤◌}
use Rattle.sync_types.specs.States.{State}
use Rattle.state_codec.specs.Packs.{AreHeld, start_of, states_in}
use Rattle.state_codec.proofs.Holding.{zeros_held, zeros_seen, length-starts, start_at}
use Rattle.state_codec.proofs.packed.Packed.new.Goals as goal

pub index-requires : goal.index-requires
index-requires c =
    omega (
      arith,
      length-starts c.args.shape c.args.nodes c.in_ok-starts.starts.items c.in_ok-starts.ensures.starts,
      c.in_ok-starts.starts.ok,
    )

pub overflow_add-room : goal.overflow_add-room
overflow_add-room c =
    let begins : c.index.result.now ≡ start_of c.args.shape c.args.nodes =
    start_at c.args.shape c.args.nodes c.args.nodes c.in_ok-starts.starts.items
    c.index.result.now c.index.result.now c.in_ok-starts.ensures.starts (omega arith)
    c.index.ensures in
    let most : c.args.nodes ≤ 256 =
    omega (arith, c.requires, c.nodes-most.ensures.value, c.nodes-most.ensures.most) in
    let few : c.index.result.now + 8 < 2 ^ 64 =
    omega (arith, begins, most, c.in_ok-starts.ensures.most) in
    search rules

pub invariant_of-result : goal.invariant_of-result
invariant_of-result c =
    let shape = c.args.shape in
    let begins = start_at shape c.args.nodes c.args.nodes c.in_ok-starts.starts.items
    c.index.result.now c.index.result.now c.in_ok-starts.ensures.starts (omega arith) c.index.ensures in
    let room : c.index.result.now + 8 ≡ start_of shape c.args.nodes + 8 =
    ap (λ n. n + 8) begins in
    let first : c.in_ok-current.current.items ≡ replicate (c.index.result.now + 8) 0 =
    search rules in
    let second : c.in_ok-next.next.items ≡ replicate (c.index.result.now + 8) 0 = search rules in
    let held = zeros_held shape c.args.nodes (c.index.result.now + 8) c.facts.ensures room in
    record {
      sound = c.facts.ensures;
      few = c.requires;
      most = omega (arith, c.requires, c.nodes-most.ensures.value, c.nodes-most.ensures.most);
      starts = c.in_ok-starts.ensures.starts;
      current = subst (AreHeld shape c.args.nodes) (sym first) held;
      next = subst (AreHeld shape c.args.nodes) (sym second) held;
    }

pub returns : goal.returns
returns c =
    let shape = c.args.shape in
    let begins = start_at shape c.args.nodes c.args.nodes c.in_ok-starts.starts.items
    c.index.result.now c.index.result.now c.in_ok-starts.ensures.starts (omega arith) c.index.ensures in
    let room : c.index.result.now + 8 ≡ start_of shape c.args.nodes + 8 =
    ap (λ n. n + 8) begins in
    let first : c.in_ok-current.current.items ≡ replicate (c.index.result.now + 8) 0 =
    search rules in
    let second : c.in_ok-next.next.items ≡ replicate (c.index.result.now + 8) 0 = search rules in
    let seen = zeros_seen shape c.args.nodes (c.index.result.now + 8) c.facts.ensures room in
    ap₂ (λ (xs ys : List State). record { shape = shape; current = xs; next = ys })
    (ap (states_in shape c.args.nodes) first ∙ seen)
    (ap (states_in shape c.args.nodes) second ∙ seen)
